use Rattle.lie_geometry.proofs.NumberOrder.{number_rises}
use Rattle.lie_geometry.proofs.coordinates.numbers_rise.Goals as goal

pub returns : goal.returns
returns c = λ S s. number_rises S s.0 s.1
