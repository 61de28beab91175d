use Rattle.lie_geometry.proofs.NumberOrder.{number_below_bound}
use Rattle.lie_geometry.proofs.coordinates.numbers_are_small.Goals as goal

pub returns : goal.returns
returns c = λ S s few_p few_q. number_below_bound S s.0 few_p s.1 few_q
