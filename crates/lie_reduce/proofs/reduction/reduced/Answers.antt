use Rattle.std.proofs.Common.{ap, sym, ◌∙◌, ◌≡◌}
use Rattle.std.proofs.lemmas.Result.{err_from_is_err_and}
use Rattle.lie_math.specs.Limits.{absolute}
use Rattle.lie_math.specs.Polynomial.{◌+ᴾ◌}
use Rattle.lie_math.specs.PolynomialRing.{polynomial_of-none}
use Rattle.lie_jet.specs.Listed.{sum_listed, bulk_listed}
use Rattle.lie_jet.proofs.TotalParts.{listed_terms, if_ok}
use Rattle.lie_jet.proofs.TotalSteps.{if_err}
use Rattle.lie_solved.specs.SolvedForms.{solved_equations}
use Rattle.lie_reduce.specs.ReducedTerms.{reduced_term}
use Rattle.lie_reduce.proofs.ReductionSteps.{total, total_more, sized_term, reduced_total, sum_cause, term_cause, entry_apart}
use Rattle.lie_reduce.proofs.reduction.reduced.Goals as goal
use Rattle.lie_reduce.proofs.reduction.reduced.Goals.{After-deref-term-items}
use Rattle.lie_ring.proofs.Fronts.{all_taken}

listed : (c : After-deref-term-items) → c.deref-term-items.result.now ≡ c.args.p.now.list
listed c = listed_terms c.args.p.now c.deref-term-items.result.now c.in_ok-terms.terms.items c.deref-term-items.ensures.value c.in_ok-terms.ensures

pub loop-term-init : goal.loop-term-init
loop-term-init c = λ e h. (ap sum_listed c.new-made.ensures.items ∙ polynomial_of-none, ap bulk_listed c.new-made.ensures.items ∙ polynomial_of-none)

pub push_reduced-requires-clause-not_zero : goal.push_reduced-requires-clause-not_zero
push_reduced-requires-clause-not_zero c = entry_apart c.args.p.now c.deref-term-items.result.now c.loop-term.term-index c.term-item.result (listed (goal.at.push_reduced-requires-clause-not_zero c).After-deref-term-items) c.loop-term-test.true c.term-item.is

pub returns-in_err-push_reduced-clause-past : goal.returns-in_err-push_reduced-clause-past
returns-in_err-push_reduced-clause-past c = λ e h.
    let k = (goal.at.returns-in_err-push_reduced-clause-past c).After-deref-term-items in
    let p = err_from_is_err_and c.from_residual-in_err-push_reduced.result c.from_residual-in_err-push_reduced.ensures.1 in
    rw (p.1, p.2) (term_cause (solved_equations c.args.space c.args.rules.now) e c.in_err-push_reduced.field-0.0 c.args.p.now c.deref-term-items.result.now c.loop-term.term-index c.term-item.result (listed k) c.loop-term-test.true c.term-item.is (c.in_err-push_reduced.ensures.past e h))

pub loop-term-preserved : goal.loop-term-preserved
loop-term-preserved c = λ e h.
    let rs = solved_equations c.args.space c.args.rules.now in
    let k = c.loop-term.invariant e h in (
      c.in_ok-push_reduced.ensures.sum e h ∙ ap (λ q. q +ᴾ reduced_term rs e c.term-item.result.0 c.term-item.result.1) k.0 ∙ sym (total_more (reduced_term rs e) c.deref-term-items.result.now c.loop-term.term-index c.term-item.result c.loop-term-test.true c.term-item.is),
      c.in_ok-push_reduced.ensures.bulk e h ∙ ap (λ q. q +ᴾ absolute (reduced_term rs e c.term-item.result.0 c.term-item.result.1)) k.1 ∙ sym (total_more (sized_term rs e) c.deref-term-items.result.now c.loop-term.term-index c.term-item.result c.loop-term-test.true c.term-item.is),
    )

pub returns-clause-reduced : goal.returns-clause-reduced
returns-clause-reduced c = λ e h.
    let rs = solved_equations c.args.space c.args.rules.now in
    let k = (goal.at.returns-clause-reduced c).After-deref-term-items in
    if_ok c.of_terms.result (λ made q. q ∙ ap sum_listed c.as_slice.ensures.value ∙ (c.loop-term.invariant e h).0 ∙ ap (total (reduced_term rs e)) (all_taken c.deref-term-items.result.now c.loop-term.term-index c.loop-term-test.false ∙ listed k) ∙ reduced_total rs e c.args.p.now) c.of_terms.ensures.sum

pub returns-clause-past : goal.returns-clause-past
returns-clause-past c = λ e h.
    let rs = solved_equations c.args.space c.args.rules.now in
    let k = (goal.at.returns-clause-past c).After-deref-term-items in
    if_err c.of_terms.result (λ fail q. sum_cause rs e fail c.args.p.now (bulk_listed c.as_slice.result.now) c.deref-term-items.result.now (listed k) (ap bulk_listed c.as_slice.ensures.value ∙ (c.loop-term.invariant e h).1 ∙ ap (total (sized_term rs e)) (all_taken c.deref-term-items.result.now c.loop-term.term-index c.loop-term-test.false)) q) c.of_terms.ensures.past
