use Rattle.std.proofs.Common.{ap, subst, sym, ◌∙◌, ◌≡◌}
use Rattle.std.specs.Prelude.{pos, unsigned_abs}
use Rattle.std.proofs.lemmas.Result.{err_from_is_err_and}
use Rattle.lie_math.specs.Limits.{IsWithinLimits, absolute}
use Rattle.lie_math.specs.Polynomial.{term, ◌+ᴾ◌}
use Rattle.lie_geometry.specs.Coordinates.{coordinates_up_to}
use Rattle.lie_geometry.specs.Prolongation.{total_derivative}
use Rattle.lie_ring.specs.Causes.{IsCause}
use Rattle.lie_poly.proofs.SumSteps.{cause_covered}
use Rattle.lie_jet.specs.Jets.{IsSmall}
use Rattle.lie_jet.specs.Listed.{sum_listed, bulk_listed}
use Rattle.lie_jet.proofs.TotalSteps.{on_ok, if_err}
use Rattle.lie_jet.proofs.TotalParts.{total_none, entry_covered, listed_terms, listed_sum, listed_bulk, term_fine, total_more, total_more_bulk, if_ok}
use Rattle.lie_jet.proofs.totals.total.Goals as goal
use Rattle.lie_jet.proofs.totals.total.Goals.{After-deref-term-items}
use Rattle.lie_ring.proofs.Fronts.{all_taken}

small : (c : After-deref-term-items) → IsSmall c.args.space
small c = c.space_is_small.ensures

listed : (c : After-deref-term-items) → c.deref-term-items.result.now ≡ c.args.p.now.list
listed c = listed_terms c.args.p.now c.deref-term-items.result.now c.in_ok-terms.terms.items c.deref-term-items.ensures.value c.in_ok-terms.ensures

pub loop-term-init : goal.loop-term-init
loop-term-init c = record {
  sum = ap sum_listed c.new-made.ensures.items ∙ sym (total_none c.args.space c.args.i);
  bulk = ap bulk_listed c.new-made.ensures.items ∙ sym (total_none c.args.space c.args.i);
}

pub push_total-requires-clause-small : goal.push_total-requires-clause-small
push_total-requires-clause-small c = small (goal.at.push_total-requires-clause-small c).After-deref-term-items

pub push_total-requires-clause-low : goal.push_total-requires-clause-low
push_total-requires-clause-low c = (term_fine (coordinates_up_to c.args.space 11) c.args.p.now c.deref-term-items.result.now c.loop-term.term-index c.term-item.result c.requires.low (listed_terms c.args.p.now c.deref-term-items.result.now c.in_ok-terms.terms.items c.deref-term-items.ensures.value c.in_ok-terms.ensures) c.loop-term-test.true c.term-item.is).0

pub push_total-requires-clause-not_zero : goal.push_total-requires-clause-not_zero
push_total-requires-clause-not_zero c = (term_fine (coordinates_up_to c.args.space 11) c.args.p.now c.deref-term-items.result.now c.loop-term.term-index c.term-item.result c.requires.low (listed_terms c.args.p.now c.deref-term-items.result.now c.in_ok-terms.terms.items c.deref-term-items.ensures.value c.in_ok-terms.ensures) c.loop-term-test.true c.term-item.is).1

pub returns-in_err-push_total-clause-past : goal.returns-in_err-push_total-clause-past
returns-in_err-push_total-clause-past c =
    let k = (goal.at.returns-in_err-push_total-clause-past c).After-deref-term-items in
    let p = err_from_is_err_and c.from_residual-in_err-push_total.result c.from_residual-in_err-push_total.ensures.1 in
    rw (p.1, p.2) (cause_covered _ _ _ (entry_covered c.args.space (small k) c.args.i c.requires.within c.args.p.now c.deref-term-items.result.now c.loop-term.term-index c.term-item.result (listed k) c.loop-term-test.true c.term-item.is) c.in_err-push_total.ensures.past)

pub loop-term-preserved : goal.loop-term-preserved
loop-term-preserved c =
    let ts = c.deref-term-items.result.now in
    record {
      sum = c.in_ok-push_total.ensures.sum ∙ ap (λ p. p +ᴾ total_derivative c.args.space c.args.i (term c.term-item.result.0 c.term-item.result.1)) c.loop-term.invariant.sum ∙ sym (total_more c.args.space c.args.i ts c.loop-term.term-index c.term-item.result c.loop-term-test.true c.term-item.is);
      bulk = c.in_ok-push_total.ensures.bulk ∙ ap (λ p. p +ᴾ total_derivative c.args.space c.args.i (term c.term-item.result.0 (pos (unsigned_abs c.term-item.result.1)))) c.loop-term.invariant.bulk ∙ sym (total_more_bulk c.args.space c.args.i ts c.loop-term.term-index c.term-item.result c.loop-term-test.true c.term-item.is);
    }

pub returns-clause-total : goal.returns-clause-total
returns-clause-total c =
    let k = (goal.at.returns-clause-total c).After-deref-term-items in
    let e : sum_listed c.as_slice.result.now ≡ total_derivative c.args.space c.args.i c.args.p.now = ap sum_listed c.as_slice.ensures.value ∙ c.loop-term.invariant.sum
    ∙ ap (total_derivative c.args.space c.args.i) (ap sum_listed (all_taken c.deref-term-items.result.now c.loop-term.term-index c.loop-term-test.false) ∙ listed_sum c.args.p.now c.deref-term-items.result.now (listed k)) in
    if_ok c.of_terms.result (λ d h. h ∙ e) c.of_terms.ensures.sum

pub returns-clause-fits : goal.returns-clause-fits
returns-clause-fits c =
    let k = (goal.at.returns-clause-fits c).After-deref-term-items in
    let e : bulk_listed c.as_slice.result.now ≡ total_derivative c.args.space c.args.i (absolute c.args.p.now) = ap bulk_listed c.as_slice.ensures.value ∙ c.loop-term.invariant.bulk
    ∙ ap (total_derivative c.args.space c.args.i) (ap bulk_listed (all_taken c.deref-term-items.result.now c.loop-term.term-index c.loop-term-test.false) ∙ listed_bulk c.args.p.now c.deref-term-items.result.now (listed k)) in
    on_ok c.of_terms.result (subst IsWithinLimits e) c.of_terms.ensures.fits

pub returns-clause-past : goal.returns-clause-past
returns-clause-past c =
    let k = (goal.at.returns-clause-past c).After-deref-term-items in
    let e : bulk_listed c.as_slice.result.now ≡ total_derivative c.args.space c.args.i (absolute c.args.p.now) = ap bulk_listed c.as_slice.ensures.value ∙ c.loop-term.invariant.bulk
    ∙ ap (total_derivative c.args.space c.args.i) (ap bulk_listed (all_taken c.deref-term-items.result.now c.loop-term.term-index c.loop-term-test.false) ∙ listed_bulk c.args.p.now c.deref-term-items.result.now (listed k)) in
    if_err c.of_terms.result (λ fail. subst (IsCause fail) e) c.of_terms.ensures.past
