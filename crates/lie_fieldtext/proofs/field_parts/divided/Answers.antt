use Rattle.std.proofs.Common.{arith, sym, subst, ◌∙◌}
use Rattle.std.specs.Prelude.{ℤ, List, unsigned_abs}
use Rattle.std.specs.Int.{◌∣◌}
use Rattle.std.specs.List.{AllByRecursion as Every}
use Rattle.std.proofs.lemmas.Result.{IfOk-weaker}
use Rattle.lie_math.specs.Limits.{IsWithinLimits, absolutes}
use Rattle.lie_math.specs.Monomial.{Monomial}
use Rattle.lie_math.specs.Polynomial.{polynomial_of}
use Rattle.lie_fieldtext.proofs.FieldLimits.{divided_within}
use Rattle.lie_fieldtext.proofs.FieldSteps.{divided_all, divided_made}
use Rattle.lie_fieldtext.proofs.field_parts.divided.Goals as goal
use Rattle.lie_jet.proofs.TotalParts.{entries_same}
use Rattle.lie_math.proofs.EveryElement.{every_at}

pub push_divided-requires-clause-divides : goal.push_divided-requires-clause-divides
push_divided-requires-clause-divides c =
    every_at (λ (e : Monomial × ℤ). c.args.divisor ∣ unsigned_abs e.1) c.as_slice-term-items.result.now c.loop-term.term-index c.term-item.result c.loop-term-test.true c.term-item.is
    (subst (Every (λ (e : Monomial × ℤ). c.args.divisor ∣ unsigned_abs e.1)) (sym (c.as_slice-term-items.ensures.value ∙ sym (entries_same c.in_ok-terms.terms.items) ∙ c.in_ok-terms.ensures)) c.requires.divides)

pub sum_within_limits-requires : goal.sum_within_limits-requires
sum_within_limits-requires c =
    let all =
    divided_all c.args.divisor c.loop-term.term-index c.loop-term.list.items c.as_slice-term-items.result.now c.in_ok-terms.terms.items c.args.part.now c.loop-term.invariant (omega (arith, c.loop-term-test.false)) c.as_slice-term-items.ensures.value
    c.in_ok-terms.ensures in
    subst (λ (es : List (Monomial × ℤ)). IsWithinLimits (polynomial_of (absolutes es))) (sym c.as_slice.ensures.value)
    (divided_within c.args.divisor c.loop-term.list.items c.args.part.now c.requires.some all c.is_within_limits.ensures)

pub returns : goal.returns
returns c =
    let all =
    divided_all c.args.divisor c.loop-term.term-index c.loop-term.list.items c.as_slice-term-items.result.now c.in_ok-terms.terms.items c.args.part.now c.loop-term.invariant (omega (arith, c.loop-term-test.false)) c.as_slice-term-items.ensures.value
    c.in_ok-terms.ensures in
    IfOk-weaker c.sum_within_limits.result _ _ (λ rest is. divided_made c.args.divisor c.loop-term.list.items c.as_slice.result.now c.args.part.now rest all c.as_slice.ensures.value is) c.sum_within_limits.ensures
