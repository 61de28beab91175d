use Rattle.std.proofs.Common.{◌≡◌, ◌∙◌, sym, ap, map, List, length, take, ℕ, ◌≤◌, subst}
use Rattle.lie_math.specs.Polynomial.{WholePolynomial}
use Rattle.lie_jet.specs.Derivatives.{derivative_of}
use Rattle.lie_form.specs.DerivativeTerms.{derivative_terms}
use Rattle.lie_jet.specs.declared.derivative.Der.{Der}
use Rattle.lie_lin.specs.Systems.{unknown_of}
use Rattle.std.proofs.lemmas.Result.{err_from_is_err_and}
use Rattle.std.proofs.lemmas.List.{length-map}
use Rattle.lie_math.specs.LinearForm.{LinearForm, ◌+ᶠ◌}
use Rattle.lie_ring.proofs.Fronts.{all_taken}
use Rattle.lie_form.proofs.FormBounds.{over_entries}
use Rattle.lie_form.proofs.FormSteps.{entries_step}
use Rattle.lie_normal.specs.TermSums.{derivative_term}
use Rattle.lie_normal.specs.Orders.{StaysLow}
use Rattle.lie_normal.proofs.Bounds.{term_cause}
use Rattle.lie_normal.proofs.DerivativeSteps.{term_bound}
use Rattle.lie_normal.proofs.Falling.{entry_at}
use Rattle.lie_normal.proofs.derivative.sum_of_derivatives.Goals as goal

pub put_derivative-requires-clause-low : goal.put_derivative-requires-clause-low
put_derivative-requires-clause-low c = entry_at (λ (t : Der × WholePolynomial). (derivative_of t.0, t.1)) (StaysLow (map unknown_of c.args.unknowns.now) c.args.var) c.args.terms.now c.loop-term.term-index c.term-item.result c.loop-term-test.true c.term-item.is c.requires.low

pub returns-in_err-put_derivative-clause-past : goal.returns-in_err-put_derivative-clause-past
returns-in_err-put_derivative-clause-past c =
    let p = err_from_is_err_and c.from_residual.result c.from_residual.ensures.1 in
    rw (p.1, p.2) (term_cause (derivative_term (map unknown_of c.args.unknowns.now) c.args.var) (term_bound (map unknown_of c.args.unknowns.now) c.args.var) _ c.loop-term.sum c.args.terms.now c.loop-term.term-index c.term-item.result c.loop-term-test.true c.term-item.is c.loop-term.invariant c.in_err-put_derivative.ensures.past)

pub loop-term-preserved : goal.loop-term-preserved
loop-term-preserved c =
    c.in_ok-put_derivative.ensures.sum ∙ ap (λ (E : LinearForm). E +ᶠ derivative_term (map unknown_of c.args.unknowns.now) c.args.var (derivative_of c.term-item.result.0) c.term-item.result.1) c.loop-term.invariant
    ∙ sym (entries_step (derivative_term (map unknown_of c.args.unknowns.now) c.args.var) c.args.terms.now c.loop-term.term-index c.term-item.result c.loop-term-test.true c.term-item.is)

all : (ts : List (Der × WholePolynomial)) (k : ℕ) → length ts ≤ k → take k (derivative_terms ts) ≡ derivative_terms ts
all ts k h = all_taken (derivative_terms ts) k (subst (λ n. n ≤ k) (sym (length-map ts (λ (t : Der × WholePolynomial). (derivative_of t.0, t.1)))) h)

pub returns-clause-sum : goal.returns-clause-sum
returns-clause-sum c = c.loop-term.invariant ∙ ap (over_entries (derivative_term (map unknown_of c.args.unknowns.now) c.args.var)) (all c.args.terms.now c.loop-term.term-index c.loop-term-test.false)
