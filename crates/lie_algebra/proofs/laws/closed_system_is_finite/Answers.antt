use Rattle.lie_algebra.proofs.ClosedForms.{closed_finite}
use Rattle.lie_algebra.proofs.laws.closed_system_is_finite.Goals as goal

pub returns : goal.returns
returns c = closed_finite
