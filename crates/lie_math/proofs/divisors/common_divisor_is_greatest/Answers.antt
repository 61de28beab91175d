use Rattle.lie_math.proofs.CommonDivisors.{common_divisor_is}
use Rattle.lie_math.proofs.divisors.common_divisor_is_greatest.Goals as goal

pub returns : goal.returns
returns c = common_divisor_is
