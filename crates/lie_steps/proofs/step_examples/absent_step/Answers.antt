use Rattle.lie_steps.proofs.StepValues.{absent_step}
use Rattle.lie_steps.proofs.step_examples.absent_step.Goals as goal

pub returns : goal.returns
returns c = absent_step
