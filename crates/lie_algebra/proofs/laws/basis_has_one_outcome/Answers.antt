use Rattle.lie_algebra.proofs.BasisOutcomes.{one_outcome}
use Rattle.lie_algebra.proofs.laws.basis_has_one_outcome.Goals as goal

pub returns : goal.returns
returns c = one_outcome
