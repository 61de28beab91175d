use Rattle.lie_geometry.proofs.ProlongedFields.{field_crosses_total}
use Rattle.lie_geometry.proofs.prolongation.field_crosses_total.Goals as goal

pub returns : goal.returns
returns c = λ S s. field_crosses_total S s.0 s.1
