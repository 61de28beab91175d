use Rattle.lie_math.proofs.Limits.{length-absolutes}
use Rattle.std.proofs.Common.{ℕ, subst, ◌≡◌, ◌∙◌, ap, ◌++◌, List, ◌∷◌, [], pos, unsigned_abs, take, length, sym, ◌≤◌}
use Rattle.std.specs.Prelude.{ℤ}
use Rattle.lie_math.specs.Limits.{absolutes}
use Rattle.lie_math.specs.Monomial.{Monomial}
use Rattle.lie_jet.proofs.Absolutes.{absolutes_sum, absolutes_starved}
use Rattle.lie_jet.proofs.ListPlaces.{take_map}
use Rattle.lie_jet.proofs.TotalParts.{listed_terms, if_ok}
use Rattle.lie_jet.proofs.TotalSteps.{if_err}
use Rattle.lie_jet.proofs.absolute_values.absolute_polynomial.Goals as goal
use Rattle.lie_jet.proofs.absolute_values.absolute_polynomial.Goals.{After-deref-term-items}
use Rattle.lie_ring.proofs.Fronts.{all_taken}

pub loop-term-preserved : goal.loop-term-preserved
loop-term-preserved c =
    c.in_ok-push_absolute.ensures.pushed ∙ ap (λ (xs : List (Monomial × ℤ)). xs ++ (c.term-item.result.0, pos (unsigned_abs c.term-item.result.1)) ∷ []) c.loop-term.invariant
    ∙ sym (take_map (λ (e : Monomial × ℤ). (e.0, pos (unsigned_abs e.1))) c.deref-term-items.result.now c.loop-term.term-index c.term-item.result c.loop-term-test.true c.term-item.is)

listed : (c : After-deref-term-items) → c.deref-term-items.result.now ≡ c.args.p.now.list
listed c = listed_terms c.args.p.now c.deref-term-items.result.now c.in_ok-terms.terms.items c.deref-term-items.ensures.value c.in_ok-terms.ensures

whole : (xs ts : List (Monomial × ℤ)) (k : ℕ) → xs ≡ take k (absolutes ts) → length ts ≤ k → xs ≡ absolutes ts
whole xs ts k e h = e ∙ all_taken (absolutes ts) k (subst (λ n. n ≤ k) (sym (length-absolutes ts)) h)

pub returns-clause-absolute : goal.returns-clause-absolute
returns-clause-absolute c =
    let k = (goal.at.returns-clause-absolute c).After-deref-term-items in
    if_ok c.of_terms.result (λ a h. h ∙ absolutes_sum c.args.p.now c.deref-term-items.result.now c.as_slice.result.now (listed k) (c.as_slice.ensures.value ∙ whole c.loop-term.absolutes.items c.deref-term-items.result.now c.loop-term.term-index c.loop-term.invariant c.loop-term-test.false)) c.of_terms.ensures.sum

pub returns-clause-memory : goal.returns-clause-memory
returns-clause-memory c =
    let k = (goal.at.returns-clause-memory c).After-deref-term-items in
    if_err c.of_terms.result (λ fail h. absolutes_starved c.args.p.now c.deref-term-items.result.now c.as_slice.result.now (listed k) (c.as_slice.ensures.value ∙ whole c.loop-term.absolutes.items c.deref-term-items.result.now c.loop-term.term-index c.loop-term.invariant c.loop-term-test.false) fail c.len.ensures.limits h) c.of_terms.ensures.past
