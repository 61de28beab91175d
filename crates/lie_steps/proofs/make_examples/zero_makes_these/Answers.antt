use Rattle.lie_steps.proofs.MakeValues.{zero_makes_these}
use Rattle.lie_steps.proofs.make_examples.zero_makes_these.Goals as goal

pub returns : goal.returns
returns c = zero_makes_these
