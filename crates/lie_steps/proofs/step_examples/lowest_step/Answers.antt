use Rattle.lie_steps.proofs.StepValues.{lowest_step}
use Rattle.lie_steps.proofs.step_examples.lowest_step.Goals as goal

pub returns : goal.returns
returns c = lowest_step
