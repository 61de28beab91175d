use Rattle.std.proofs.Common.{◌≡◌, ◌∙◌, ◌≤◌, ap, sym, subst, ℕ, length, take, List}
use Rattle.std.proofs.lemmas.Result.{err_from_is_err_and}
use Rattle.lie_math.specs.LinearForm.{LinearForm, ◌+ᶠ◌}
use Rattle.lie_math.specs.Polynomial.{WholePolynomial}
use Rattle.lie_jet.specs.Derivatives.{derivative_of}
use Rattle.lie_form.specs.DerivativeTerms.{derivative_terms}
use Rattle.lie_form.specs.FormTotals.{total_of_term}
use Rattle.lie_jet.specs.Jets.{IsSmall}
use Rattle.lie_jet.specs.declared.derivative.Der.{Der}
use Rattle.std.proofs.lemmas.List.{length-map}
use Rattle.lie_form.proofs.FormBounds.{over_entries}
use Rattle.lie_form.proofs.FormSteps.{entry_low, entry_cause, entries_step, total_is}
use Rattle.lie_form.proofs.form_totals.sum_of_totals.Goals as goal
use Rattle.lie_form.proofs.form_totals.sum_of_totals.Goals.{After-terms-term-items}
use Rattle.lie_ring.proofs.Fronts.{all_taken}

small : (c : After-terms-term-items) → IsSmall c.args.space
small c = c.space_is_small.ensures

pub put_total-requires-clause-small : goal.put_total-requires-clause-small
put_total-requires-clause-small c = small (goal.at.put_total-requires-clause-small c).After-terms-term-items

pub put_total-requires-clause-jets : goal.put_total-requires-clause-jets
put_total-requires-clause-jets c = (entry_low c.args.space 11 63 c.args.form.now c.requires.jets c.requires.orders c.terms-term-items.result.now c.loop-term.term-index c.term-item.result c.loop-term-test.true c.term-item.is c.terms-term-items.ensures).0

pub put_total-requires-clause-orders : goal.put_total-requires-clause-orders
put_total-requires-clause-orders c = (entry_low c.args.space 11 63 c.args.form.now c.requires.jets c.requires.orders c.terms-term-items.result.now c.loop-term.term-index c.term-item.result c.loop-term-test.true c.term-item.is c.terms-term-items.ensures).1

pub returns-in_err-put_total-clause-past : goal.returns-in_err-put_total-clause-past
returns-in_err-put_total-clause-past c =
    let k = (goal.at.returns-in_err-put_total-clause-past c).After-terms-term-items in
    let p = err_from_is_err_and c.from_residual.result c.from_residual.ensures.1 in
    rw (p.1, p.2) (entry_cause c.args.space (small k) c.args.i c.requires.within c.args.form.now _ c.loop-term.sum c.terms-term-items.result.now c.loop-term.term-index c.term-item.result c.loop-term-test.true c.term-item.is c.terms-term-items.ensures c.loop-term.invariant c.in_err-put_total.ensures.past)

pub loop-term-preserved : goal.loop-term-preserved
loop-term-preserved c =
    c.in_ok-put_total.ensures.sum ∙ ap (λ (E : LinearForm). E +ᶠ total_of_term c.args.space c.args.i (derivative_of c.term-item.result.0) c.term-item.result.1) c.loop-term.invariant
    ∙ sym (entries_step (total_of_term c.args.space c.args.i) c.terms-term-items.result.now c.loop-term.term-index c.term-item.result c.loop-term-test.true c.term-item.is)

all : (ts : List (Der × WholePolynomial)) (k : ℕ) → length ts ≤ k → take k (derivative_terms ts) ≡ derivative_terms ts
all ts k h = all_taken (derivative_terms ts) k (subst (λ n. n ≤ k) (sym (length-map ts (λ (t : Der × WholePolynomial). (derivative_of t.0, t.1)))) h)

pub returns-clause-total : goal.returns-clause-total
returns-clause-total c =
    let k = (goal.at.returns-clause-total c).After-terms-term-items in
    c.loop-term.invariant ∙ ap (over_entries (total_of_term c.args.space c.args.i)) (all c.terms-term-items.result.now c.loop-term.term-index c.loop-term-test.false) ∙ total_is c.args.space (small k) c.args.i c.requires.within c.args.form.now (derivative_terms c.terms-term-items.result.now) c.terms-term-items.ensures
