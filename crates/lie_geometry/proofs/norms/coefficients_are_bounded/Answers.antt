use Rattle.lie_geometry.proofs.NormLaws.{coefficients_are_bounded}
use Rattle.lie_geometry.proofs.norms.coefficients_are_bounded.Goals as goal

pub returns : goal.returns
returns c = coefficients_are_bounded
