use Rattle.lie_steps.proofs.MakeValues.{substitute_makes_these}
use Rattle.lie_steps.proofs.make_examples.substitute_makes_these.Goals as goal

pub returns : goal.returns
returns c = substitute_makes_these
