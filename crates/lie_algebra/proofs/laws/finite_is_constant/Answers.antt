use Rattle.lie_algebra.proofs.FiniteSystems.{finite_is_constant}
use Rattle.lie_algebra.proofs.laws.finite_is_constant.Goals as goal

pub returns : goal.returns
returns c = finite_is_constant
