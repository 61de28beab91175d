use Rattle.lie_steps.proofs.MakeValues.{cross_tries_these}
use Rattle.lie_steps.proofs.make_examples.cross_tries_these.Goals as goal

pub returns : goal.returns
returns c = cross_tries_these
