use Rattle.lie_steps.proofs.SearchValues.{second_step_makes_these}
use Rattle.lie_steps.proofs.make_examples.second_step_makes_these.Goals as goal

pub returns : goal.returns
returns c = second_step_makes_these
