use Rattle.std.proofs.Common.{◌≡◌, ◌∙◌, sym, ap, subst, is_eq, add-one, true, false}
use Rattle.std.specs.Prelude.{IfOk}
use Rattle.std.specs.Ordering.{eq_by_cmp}
use Rattle.lie_math.specs.Counts.{derivative_cmp}
use Rattle.lie_math.specs.Polynomial.{WholePolynomial}
use Rattle.lie_jet.specs.Derivatives.{derivative_of}
use Rattle.lie_normal.proofs.Lookups.{coefficient_from, found_at, passed_at}
use Rattle.lie_normal.proofs.combining.coefficient_of.Goals as goal

pub returns-then-is_eq : goal.returns-then-is_eq
returns-then-is_eq c =
    let d = derivative_of c.args.der.now in
    let same : eq_by_cmp derivative_cmp d (derivative_of c.term-item.result.0) ≡ true = ap is_eq (sym c.compare_derivatives.ensures) ∙ sym c.if-is_eq.ensures in
    subst (λ (p : WholePolynomial). IfOk c.copy.result (λ found. found ≡ p)) (sym (found_at d c.args.terms.now c.loop-term.term-index c.term-item.result c.requires c.loop-term-test.true c.term-item.is same) ∙ c.loop-term.invariant) c.copy.ensures

pub loop-term-preserved : goal.loop-term-preserved
loop-term-preserved c =
    let d = derivative_of c.args.der.now in
    let other : eq_by_cmp derivative_cmp d (derivative_of c.term-item.result.0) ≡ false = ap is_eq (sym c.compare_derivatives.ensures) ∙ sym c.if-is_eq.ensures in
    ap (λ n. coefficient_from d n c.args.terms.now) (add-one c.loop-term.term-index) ∙ sym (passed_at d c.args.terms.now c.loop-term.term-index c.term-item.result c.loop-term-test.true c.term-item.is other) ∙ c.loop-term.invariant
