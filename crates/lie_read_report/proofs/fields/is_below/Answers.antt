use Rattle.std.proofs.Common.{sym, subst, ◌∙◌, arith}
use Rattle.std.specs.Prelude.{ℤ}
use Rattle.std.specs.List.{AllByRecursion as Every}
use Rattle.lie_math.specs.Monomial.{Monomial}
use Rattle.lie_math.proofs.EveryElement.{every_at}
use Rattle.lie_jet.proofs.TotalParts.{entries_same}
use Rattle.lie_ring.proofs.Fronts.{all_taken}
use Rattle.lie_lin.specs.Validity.{AreLow}
use Rattle.lie_read_report.proofs.LowPolynomials.{every_taken, in_of_low, low_of_in}
use Rattle.lie_read_report.proofs.fields.is_below.Goals as goal

pub returns-then-not-is_monomial_below : goal.returns-then-not-is_monomial_below
returns-then-not-is_monomial_below c = λ h.
    c.if-not-is_monomial_below.ensures (every_at (λ (e : Monomial × ℤ). AreLow c.args.bound (e.0).list) c.as_slice-term-items.result.now c.loop-term.term-index c.term-item.result c.loop-term-test.true c.term-item.is
    (subst (Every (λ (e : Monomial × ℤ). AreLow c.args.bound (e.0).list)) (sym (c.as_slice-term-items.ensures.value ∙ sym (entries_same c.in_ok-terms.terms.items) ∙ c.in_ok-terms.ensures)) (low_of_in c.args.bound c.args.sum.now h)))

pub loop-term-preserved : goal.loop-term-preserved
loop-term-preserved c = every_taken (λ (e : Monomial × ℤ). AreLow c.args.bound (e.0).list) c.as_slice-term-items.result.now c.loop-term.term-index c.term-item.result c.loop-term-test.true c.term-item.is c.loop-term.invariant c.if-not-is_monomial_below.ensures

pub returns : goal.returns
returns c =
    in_of_low c.args.bound c.args.sum.now
    (subst (Every (λ (e : Monomial × ℤ). AreLow c.args.bound (e.0).list)) (all_taken c.as_slice-term-items.result.now c.loop-term.term-index (omega (arith, c.loop-term-test.false)) ∙ c.as_slice-term-items.ensures.value ∙ sym (entries_same c.in_ok-terms.terms.items) ∙ c.in_ok-terms.ensures) c.loop-term.invariant)
