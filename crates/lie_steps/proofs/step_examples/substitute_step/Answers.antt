use Rattle.lie_steps.proofs.StepValues.{substitute_step}
use Rattle.lie_steps.proofs.step_examples.substitute_step.Goals as goal

pub returns : goal.returns
returns c = substitute_step
