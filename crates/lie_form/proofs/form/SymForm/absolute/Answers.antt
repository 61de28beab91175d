use Rattle.std.proofs.Common.{◌≡◌, ◌∙◌, ap, sym, subst, ◌++◌, ◌∷◌, [], List, length, take, ℕ, ◌≤◌}
use Rattle.lie_math.specs.Limits.{absolute}
use Rattle.lie_math.specs.LinearForm.{each_coefficient}
use Rattle.lie_math.specs.Polynomial.{WholePolynomial}
use Rattle.lie_jet.specs.declared.derivative.Der.{Der}
use Rattle.std.proofs.lemmas.List.{length-map}
use Rattle.lie_jet.proofs.ListPlaces.{take_map}
use Rattle.lie_form.proofs.FormParts.{kept_absolutes, absolutes_canonical, absolutes_are}
use Rattle.lie_form.proofs.form.SymForm.absolute.Goals as goal
use Rattle.lie_ring.proofs.Fronts.{all_taken}

pub loop-term-preserved : goal.loop-term-preserved
loop-term-preserved c =
    c.in_ok-push_absolute.ensures.pushed ∙ ap (λ (xs : List (Der × WholePolynomial)). xs ++ (c.term-item.result.0, absolute c.term-item.result.1) ∷ []) c.loop-term.invariant
    ∙ sym (take_map (λ (t : Der × WholePolynomial). (t.0, absolute t.1)) c.as_slice-term-items.result.now c.loop-term.term-index c.term-item.result c.loop-term-test.true c.term-item.is)

whole : (us ts kept : List (Der × WholePolynomial)) (k : ℕ) → us ≡ take k (kept_absolutes ts) → length ts ≤ k → ts ≡ kept → us ≡ kept_absolutes kept
whole us ts kept k e h q = e ∙ all_taken (kept_absolutes ts) k (subst (λ n. n ≤ k) (sym (length-map ts (λ (t : Der × WholePolynomial). (t.0, absolute t.1)))) h) ∙ ap kept_absolutes q

pub invariant_of-result : goal.invariant_of-result
invariant_of-result c = absolutes_canonical c.self.inside.terms.items c.loop-term.terms.items (whole c.loop-term.terms.items c.as_slice-term-items.result.now c.self.inside.terms.items c.loop-term.term-index c.loop-term.invariant c.loop-term-test.false c.as_slice-term-items.ensures.value) c.self.invariant

pub returns-clause-absolute : goal.returns-clause-absolute
returns-clause-absolute c = absolutes_are c.self.inside.terms.items c.loop-term.terms.items (whole c.loop-term.terms.items c.as_slice-term-items.result.now c.self.inside.terms.items c.loop-term.term-index c.loop-term.invariant c.loop-term-test.false c.as_slice-term-items.ensures.value) c.self.invariant ∙ ap (each_coefficient absolute) c.self.view_is
