use Rattle.std.proofs.Common.{[], ◌∙◌, ap₂, arith, sym, subst}
use Rattle.lie_math.specs.FiniteSum as finite
use Rattle.lie_math.specs.Limits.{HasLowExponents, absolute}
use Rattle.lie_math.specs.LinearForm.{forms}
use Rattle.lie_math.specs.Monomial.{power_of}
use Rattle.lie_math.specs.Polynomial.{◌+ᴾ◌}
use Rattle.lie_form.proofs.AbsentDerivatives.{within_beside_none}
use Rattle.lie_jet.proofs.Absolutes.{within_starved}
use Rattle.lie_rules.proofs.FreshSteps.{low_power}
use Rattle.lie_rules.proofs.fresh.put_power.Goals as goal

pub term_polynomial-requires : goal.term_polynomial-requires
term_polynomial-requires c =
    subst HasLowExponents (sym (c.power-mono.ensures ∙ ap₂ power_of c.from.ensures c.from-2.ensures))
    (low_power c.args.power.0 c.args.power.1 (omega arith))

pub unreachable-requires : goal.unreachable-requires
unreachable-requires c =
    let old = finite.value forms c.args.sum.now (record { unknown = c.args.number; counts = [] }) in
    rw c.in-Err-Past.field-0-is at (within_starved c.in-Err-Past.field-0 (absolute old +ᴾ absolute c.in_ok-poly.poly)
    (within_beside_none old c.in_ok-poly.poly c.requires c.is_within_limits.ensures) c.in-Err-Past.ensures.past)
