use Rattle.lie_steps.proofs.StepValues.{cross_step}
use Rattle.lie_steps.proofs.step_examples.cross_step.Goals as goal

pub returns : goal.returns
returns c = cross_step
