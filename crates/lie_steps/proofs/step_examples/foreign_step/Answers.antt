use Rattle.lie_steps.proofs.StepValues.{foreign_step}
use Rattle.lie_steps.proofs.step_examples.foreign_step.Goals as goal

pub returns : goal.returns
returns c = foreign_step
