use Rattle.lie_steps.proofs.StepValues.{reduce_step}
use Rattle.lie_steps.proofs.step_examples.reduce_step.Goals as goal

pub returns : goal.returns
returns c = reduce_step
