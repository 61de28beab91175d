use Rattle.lie_math.specs.LinearSystem.{Gives}
use Rattle.lie_spans.proofs.FieldBasis.{one_field_basis}
use Rattle.lie_algebra.proofs.laws.system_basis_is_unique.Goals as goal

pub returns : goal.returns
returns c = λ n S. one_field_basis n (Gives S)
