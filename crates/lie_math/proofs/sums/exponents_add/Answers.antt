use Rattle.lie_math.proofs.Monomial.{exponent-·}
use Rattle.lie_math.proofs.sums.exponents_add.Goals as goal

pub returns : goal.returns
returns c = exponent-·
