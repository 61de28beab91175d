use Rattle.lie_geometry.proofs.Numbers.{coordinate_is, coordinate-number}
use Rattle.lie_geometry.proofs.coordinates.numbers_are_inverse.Goals as goal

pub returns : goal.returns
returns c = λ S s. (coordinate_is S s.0 s.1, coordinate-number S s.0 s.1)
