use Rattle.std.proofs.Common.{◌≡◌, ◌∙◌, sym, ap, subst, List, length, take, ℕ, ◌≤◌}
use Rattle.std.proofs.lemmas.Result.{err_from_is_err_and}
use Rattle.lie_math.specs.LinearForm.{◌+ᶠ◌}
use Rattle.lie_math.specs.Polynomial.{WholePolynomial}
use Rattle.lie_jet.specs.Derivatives.{derivative_of}
use Rattle.lie_form.specs.DerivativeTerms.{derivative_terms}
use Rattle.lie_jet.specs.declared.derivative.Der.{Der}
use Rattle.lie_form.proofs.FormBounds.{over_entries}
use Rattle.lie_normal.specs.TermSums.{multiple_term}
use Rattle.lie_normal.proofs.MultipleSteps.{multiple_cause, multiple_step}
use Rattle.std.proofs.lemmas.List.{length-map}
use Rattle.lie_math.specs.Canonical.{idr}
use Rattle.lie_math.specs.FiniteSumLaws as finite_laws
use Rattle.lie_math.specs.LinearForm.{forms}
use Rattle.lie_ring.proofs.Fronts.{all_taken}
use Rattle.lie_normal.proofs.multiples.put_multiple.Goals as goal

pub loop-term-init : goal.loop-term-init
loop-term-init c = sym (idr (finite_laws.adder forms) c.args.sum.now)

pub loop-term-preserved : goal.loop-term-preserved
loop-term-preserved c = multiple_step c.args.factor.now c.args.sum.now c.loop-term.sum c.put_product.new.sum c.args.terms.now c.loop-term.term-index c.term-item.result c.loop-term-test.true c.term-item.is c.loop-term.invariant c.in_ok-put_product.ensures.sum

pub returns-in_err-put_product-clause-past : goal.returns-in_err-put_product-clause-past
returns-in_err-put_product-clause-past c =
    let p = err_from_is_err_and c.from_residual.result c.from_residual.ensures.1 in
    rw (p.1, p.2) (multiple_cause c.args.factor.now _ c.args.sum.now c.loop-term.sum c.args.terms.now c.loop-term.term-index c.term-item.result c.loop-term-test.true c.term-item.is c.loop-term.invariant c.in_err-put_product.ensures.past)

all : (ts : List (Der × WholePolynomial)) (k : ℕ) → length ts ≤ k → take k (derivative_terms ts) ≡ derivative_terms ts
all ts k h = all_taken (derivative_terms ts) k (subst (λ n. n ≤ k) (sym (length-map ts (λ (t : Der × WholePolynomial). (derivative_of t.0, t.1)))) h)

pub returns-clause-sum : goal.returns-clause-sum
returns-clause-sum c = c.loop-term.invariant ∙ ap (λ es. c.args.sum.now +ᶠ over_entries (multiple_term c.args.factor.now) es) (all c.args.terms.now c.loop-term.term-index c.loop-term-test.false)
