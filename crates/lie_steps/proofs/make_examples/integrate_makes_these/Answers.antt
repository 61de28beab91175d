use Rattle.lie_steps.proofs.MakeValues.{integrate_makes_these}
use Rattle.lie_steps.proofs.make_examples.integrate_makes_these.Goals as goal

pub returns : goal.returns
returns c = integrate_makes_these
