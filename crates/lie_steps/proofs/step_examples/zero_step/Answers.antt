use Rattle.lie_steps.proofs.StepValues.{zero_step}
use Rattle.lie_steps.proofs.step_examples.zero_step.Goals as goal

pub returns : goal.returns
returns c = zero_step
