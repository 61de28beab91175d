use Rattle.lie_steps.proofs.MakeValues.{reduce_makes_these}
use Rattle.lie_steps.proofs.make_examples.reduce_makes_these.Goals as goal

pub returns : goal.returns
returns c = reduce_makes_these
