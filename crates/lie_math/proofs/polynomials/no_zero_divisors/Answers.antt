use Rattle.lie_math.proofs.ZeroDivisors.{no_zero_divisors}
use Rattle.lie_math.proofs.polynomials.no_zero_divisors.Goals as goal

pub returns : goal.returns
returns c = no_zero_divisors
