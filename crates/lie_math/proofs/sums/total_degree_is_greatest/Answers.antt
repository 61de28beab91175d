use Rattle.lie_math.specs.Monomial.{degree}
use Rattle.lie_math.proofs.Degree.{bounded, reached}
use Rattle.lie_math.proofs.sums.total_degree_is_greatest.Goals as goal

pub returns : goal.returns
returns c = λ p. (bounded degree p.list, reached degree p)
