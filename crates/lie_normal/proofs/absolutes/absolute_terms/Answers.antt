use Rattle.std.proofs.Common.{◌≡◌, ◌∙◌, ap, sym, subst, ◌++◌, ◌∷◌, [], List, length, take, ℕ, ◌≤◌}
use Rattle.lie_math.specs.Limits.{absolute}
use Rattle.lie_math.specs.Polynomial.{WholePolynomial}
use Rattle.lie_jet.specs.declared.derivative.Der.{Der}
use Rattle.std.proofs.lemmas.List.{length-map}
use Rattle.lie_jet.proofs.ListPlaces.{take_map}
use Rattle.lie_form.proofs.FormParts.{kept_absolutes}
use Rattle.lie_normal.proofs.absolutes.absolute_terms.Goals as goal
use Rattle.lie_ring.proofs.Fronts.{all_taken}

pub loop-term-preserved : goal.loop-term-preserved
loop-term-preserved c =
    c.in_ok-push_absolute.ensures.pushed ∙ ap (λ (xs : List (Der × WholePolynomial)). xs ++ (c.term-item.result.0, absolute c.term-item.result.1) ∷ []) c.loop-term.invariant
    ∙ sym (take_map (λ (t : Der × WholePolynomial). (t.0, absolute t.1)) c.args.terms.now c.loop-term.term-index c.term-item.result c.loop-term-test.true c.term-item.is)

whole : (us ts : List (Der × WholePolynomial)) (k : ℕ) → us ≡ take k (kept_absolutes ts) → length ts ≤ k → us ≡ kept_absolutes ts
whole us ts k e h = e ∙ all_taken (kept_absolutes ts) k (subst (λ n. n ≤ k) (sym (length-map ts (λ (t : Der × WholePolynomial). (t.0, absolute t.1)))) h)

pub returns-clause-sizes : goal.returns-clause-sizes
returns-clause-sizes c = whole c.loop-term.sizes.items c.args.terms.now c.loop-term.term-index c.loop-term.invariant c.loop-term-test.false
