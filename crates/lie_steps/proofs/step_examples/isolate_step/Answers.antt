use Rattle.lie_steps.proofs.StepValues.{isolate_step}
use Rattle.lie_steps.proofs.step_examples.isolate_step.Goals as goal

pub returns : goal.returns
returns c = isolate_step
