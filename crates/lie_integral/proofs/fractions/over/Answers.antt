use Rattle.std.proofs.Common.{refl}
use Rattle.lie_integral.proofs.LowestFractions.{over_wide, over_fraction}
use Rattle.lie_integral.proofs.fractions.over.Goals as goal

pub exact_quotient-requires-clause-divides : goal.exact_quotient-requires-clause-divides
exact_quotient-requires-clause-divides c = c.common_divisor-common.ensures.divisor.1

pub exact_quotient-requires-2-clause-divides : goal.exact_quotient-requires-2-clause-divides
exact_quotient-requires-2-clause-divides c = c.common_divisor-common.ensures.divisor.0

pub returns-in_err-divisor : goal.returns-in_err-divisor
returns-in_err-divisor c n D h =
    rw c.from_residual.ensures (over_wide c.args.fraction c.args.factor c.common_divisor-common.result c.exact_quotient.result c.requires
    c.common_divisor-common.ensures.positive c.common_divisor-common.ensures.divisor c.exact_quotient.ensures n D h
    c.in_err-divisor.ensures)

pub returns : goal.returns
returns c n D h =
    over_fraction c.args.fraction c.args.factor c.common_divisor-common.result c.exact_quotient-2.result c.exact_quotient.result c.requires
    c.common_divisor-common.ensures.positive c.common_divisor-common.ensures.divisor c.exact_quotient-2.ensures c.exact_quotient.ensures
    n D
    c.in_ok-divisor.divisor c.exact_quotient-2.result h c.in_ok-divisor.ensures.0 refl
