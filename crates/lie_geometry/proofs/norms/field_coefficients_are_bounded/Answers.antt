use Rattle.lie_geometry.proofs.FieldNorms.{field_coefficients_are_bounded}
use Rattle.lie_geometry.proofs.norms.field_coefficients_are_bounded.Goals as goal

pub returns : goal.returns
returns c = field_coefficients_are_bounded
