use Rattle.lie_steps.proofs.StepValues.{split_step}
use Rattle.lie_steps.proofs.step_examples.split_step.Goals as goal

pub returns : goal.returns
returns c = split_step
