use Rattle.lie_steps.proofs.MakeValues.{foreign_tries_these}
use Rattle.lie_steps.proofs.make_examples.foreign_tries_these.Goals as goal

pub returns : goal.returns
returns c = foreign_tries_these
