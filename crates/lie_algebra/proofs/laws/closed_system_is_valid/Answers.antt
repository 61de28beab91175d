use Rattle.lie_algebra.proofs.ClosedForms.{closed_valid}
use Rattle.lie_algebra.proofs.laws.closed_system_is_valid.Goals as goal

pub returns : goal.returns
returns c = closed_valid
