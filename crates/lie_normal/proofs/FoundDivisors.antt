-- The search along the terms of a form for the first derivative that a lead divides.
use Rattle.std.specs.Prelude.{◌≡◌, ℕ, ◌+◌, ◌<◌, ◌≤◌, List, length, get_or, take}
use Rattle.std.proofs.Common.{refl, sym, ap, subst, ◌∙◌}
use Rattle.std.proofs.lemmas.List.{length-map}
use Rattle.std.specs.List.{AllByRecursion as Every}
use Rattle.lie_math.specs.Counts.{Derivative}
use Rattle.lie_math.specs.LinearForm.{LinearForm}
use Rattle.lie_math.specs.Polynomial.{WholePolynomial}
use Rattle.lie_ring.proofs.Fronts.{all_taken}
use Rattle.lie_jet.specs.Derivatives.{derivative_of}
use Rattle.lie_jet.specs.declared.derivative.Der.{Der}
use Rattle.lie_jet.proofs.ListPlaces.{get_map}
use Rattle.lie_lin.specs.Forms.{coefficients_of}
use Rattle.lie_normal.specs.Leads.{NoneDivides, IsFirstDivisor, IsGreatestDivided}
use Rattle.lie_normal.specs.declared.leads.PlacedLead.{PlacedLead}
use Rattle.lie_normal.proofs.Bounds.{same_terms}
use Rattle.lie_normal.proofs.LeadOrder.{every_taken}

abbrev Entry : Type 0
Entry = Derivative × WholePolynomial

module _ (E : LinearForm) (xs : List PlacedLead) (ts : List (Der × WholePolynomial)) (is : coefficients_of ts ≡ E.list) where
  abbrev NoneDividesEntry : Entry → Type 0
  NoneDividesEntry e = NoneDivides xs e.0

  length_is : length (coefficients_of ts) ≡ length ts
  length_is = ap length (sym (same_terms ts)) ∙ length-map ts (λ (t : Der × WholePolynomial). (derivative_of t.0, t.1))

  entry_at : (k : ℕ) (x : Der × WholePolynomial) → x ≡ get_or ts k x → (derivative_of x.0, x.1) ≡ get_or (coefficients_of ts) k (derivative_of x.0, x.1)
  entry_at k x e = get_map (λ (t : Der × WholePolynomial). (derivative_of t.0, t.1)) ts k x e ∙ ap (λ es. get_or es k (derivative_of x.0, x.1)) (same_terms ts)

  pub divided_found : (k : ℕ) (x : Der × WholePolynomial) → k < length ts → x ≡ get_or ts k x → Every (λ (e : Entry). NoneDivides xs e.0) (take k (coefficients_of ts))
      → (p : PlacedLead) → IsFirstDivisor xs (derivative_of x.0) p → IsGreatestDivided E xs (derivative_of x.0) p
  divided_found k x h e none p f = record {
    index = k;
    inside = subst (λ es. k < length es) is (subst (λ n. k < n) (sym length_is) h);
    entry = (derivative_of x.0, x.1);
    is = entry_at k x e ∙ ap (λ es. get_or es k (derivative_of x.0, x.1)) is;
    derivative = refl;
    before = subst (λ es. Every NoneDividesEntry (take k es)) is none;
    first = f;
  }

  pub divided_later : (k : ℕ) (x : Der × WholePolynomial) → k < length ts → x ≡ get_or ts k x → Every (λ (e : Entry). NoneDivides xs e.0) (take k (coefficients_of ts))
      → NoneDivides xs (derivative_of x.0) → Every (λ (e : Entry). NoneDivides xs e.0) (take (k + 1) (coefficients_of ts))
  divided_later k x h e none p = every_taken NoneDividesEntry (coefficients_of ts) k (derivative_of x.0, x.1) (subst (λ n. k < n) (sym length_is) h) (entry_at k x e) none p

  pub none_divided : (k : ℕ) → length ts ≤ k → Every (λ (e : Entry). NoneDivides xs e.0) (take k (coefficients_of ts)) → Every (λ (e : Entry). NoneDivides xs e.0) E.list
  none_divided k h none = subst (Every NoneDividesEntry) (all_taken (coefficients_of ts) k (subst (λ n. n ≤ k) (sym length_is) h) ∙ is) none
