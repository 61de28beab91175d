use Rattle.lie_geometry.proofs.FieldNorms.{bounded_polynomial_is_within_limits}
use Rattle.lie_geometry.proofs.norms.bounded_polynomial_is_within_limits.Goals as goal

pub returns : goal.returns
returns c = bounded_polynomial_is_within_limits
