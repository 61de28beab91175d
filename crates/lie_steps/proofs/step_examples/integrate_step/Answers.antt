use Rattle.lie_steps.proofs.StepValues.{integrate_step}
use Rattle.lie_steps.proofs.step_examples.integrate_step.Goals as goal

pub returns : goal.returns
returns c = integrate_step
