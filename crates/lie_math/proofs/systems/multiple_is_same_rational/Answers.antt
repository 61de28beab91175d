use Rattle.lie_math.proofs.RationalPolynomial.{same_rational-multiple}
use Rattle.lie_math.proofs.systems.multiple_is_same_rational.Goals as goal

pub returns : goal.returns
returns c = same_rational-multiple
