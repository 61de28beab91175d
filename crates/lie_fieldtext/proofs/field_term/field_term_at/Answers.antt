use Rattle.std.proofs.Common.{subst, sym, ◌≤◌, ◌/◌}
use Rattle.lie_math.specs.CommonDivisors.{common_divisor}
use Rattle.lie_math.proofs.CommonDivisors.{common_divisor_is}
use Rattle.lie_system.specs.Exponents.{HasSmallExponents}
use Rattle.lie_scan.proofs.ExponentSteps.{unit_small}
use Rattle.lie_fieldtext.proofs.FieldSteps.{quotient_some}
use Rattle.lie_fieldtext.proofs.field_term.field_term_at.Goals as goal

pub factors_at-requires-clause-small : goal.factors_at-requires-clause-small
factors_at-requires-clause-small c = subst HasSmallExponents (sym c.one.ensures) unit_small

pub returns-clause-some : goal.returns-clause-some
returns-clause-some c =
    let n = c.in_ok-fraction.fraction.numerator in
    let d = c.in_ok-fraction.fraction.denominator in
    subst (λ g. 1 ≤ d / g) (sym c.common_divisor-divisor.ensures.value) (quotient_some (common_divisor n d) d (common_divisor_is n d).1 c.in_ok-fraction.ensures.some)
