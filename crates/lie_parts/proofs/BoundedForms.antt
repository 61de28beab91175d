-- What a form is past a limit of, a form that bounds it is past too.
use Rattle.std.specs.Prelude.{◌≡◌, ℕ, ◌<◌, ◌≤◌, ◌⊎◌, List, [], ◌∷◌, ℤ, pos, unsigned_abs}
use Rattle.std.proofs.Common.{sym, ap, subst, ◌∙◌, arith, inl, inr}
use Rattle.std.specs.List.{AllByRecursion as Every, Any}
use Rattle.lie_math.specs.Counts.{Derivative, order}
use Rattle.lie_math.specs.FiniteSumLaws.{value-none}
use Rattle.lie_math.proofs.Limits.{zero_covered}
use Rattle.lie_math.specs.Limits.{number_limit, greatest_exponent}
use Rattle.lie_math.specs.LinearForm.{forms, LinearForm}
use Rattle.lie_math.specs.Monomial.{Monomial, exponent}
use Rattle.lie_math.specs.Polynomial.{WholePolynomial, terms, coefficient, 0ᴾ}
use Rattle.lie_math.proofs.Decisions.{any_with}
use Rattle.lie_math.proofs.EveryElement.{every-append}
use Rattle.lie_math.proofs.FiniteSum.{entries_of}
use Rattle.lie_systems.specs.Bulk.{greatest_form_order, IsFormWithinLimits}
use Rattle.lie_systems.specs.Works.{Limit, OnCoefficients, OnExponents, OnTerms, OnOrders, OnUnknowns, OnWidth, AForm, IsMadeWithin, IsMadePast}
use Rattle.lie_systems.proofs.WorkLimits.{within_or_past, not_within_and_past}
use Rattle.lie_systems.specs.Triples.{Triple, triples, triples_in, triples_with}
use Rattle.lie_ring.specs.declared.failures.PastKind.TheVariants.{Coefficient, Exponent, Terms, Order, Unknowns, Width}
use Rattle.lie_ring.specs.declared.failures.PolyFail.{PolyFail}
use Rattle.lie_ring.specs.declared.failures.PolyFail.TheVariants.{Past, NoMemory}
use Rattle.lie_form.specs.FormLimits.{IsFormCause}
use Rattle.lie_form.proofs.FormBounds.{at, IsFormBound, cause_bound}
use Rattle.lie_form.proofs.FormCauses.{coefficient_cause, triple_of}
use Rattle.lie_parts.proofs.FewerTriples.{fewer_triples}

module _ (E : LinearForm) where
  -- the number of a triple is the coefficient there, which is not 0
  abbrev IsValue : Triple → Type 0
  IsValue t = (coefficient (at E t.0) t.1 ≡ t.2) × ¬ (t.2 ≡ pos 0)

  values_with : (d : Derivative) (p : WholePolynomial) → at E d ≡ p → (es : List (Monomial × ℤ)) → Every (λ (e : Monomial × ℤ). (coefficient p e.0 ≡ e.1) × ¬ (e.1 ≡ pos 0)) es → Every IsValue (triples_with d es)
  values_with d p is [] h = tt
  values_with d p is (e ∷ es) h = ((ap (λ (q : WholePolynomial). coefficient q e.0) is ∙ (h.0).0, (h.0).1), values_with d p is es h.1)

  values_in : (es : List (Derivative × WholePolynomial)) → Every (λ (e : Derivative × WholePolynomial). at E e.0 ≡ e.1) es → Every IsValue (triples_in es)
  values_in [] h = tt
  values_in (e ∷ es) h =
      every-append IsValue (triples_with e.0 e.1.list) (triples_in es)
      (values_with e.0 e.1 h.0 e.1.list (entries_of terms e.1 (λ (x : Monomial × ℤ). (coefficient e.1 x.0 ≡ x.1) × ¬ (x.1 ≡ pos 0)) (λ x is apart. (is, apart)))) (values_in es h.1)

  values : Every IsValue (triples E)
  values = values_in E.list (entries_of forms E (λ (e : Derivative × WholePolynomial). at E e.0 ≡ e.1) (λ e is apart. is))

module _ (E B : LinearForm) (bound : IsFormBound E B) where
  occurs : (t : Triple) → IsValue E t → ¬ (at B t.0 ≡ 0ᴾ)
  occurs t v z =
      let none : coefficient (at B t.0) t.1 ≡ pos 0 = ap (λ q. coefficient q t.1) z ∙ value-none terms t.1 in
      v.1 (sym v.0 ∙ zero_covered (coefficient (at E t.0) t.1) (coefficient (at B t.0) t.1) ((bound.each t.0).covered.at_most t.1) none)

  -- a triple of the form with a property
  abbrev Found : (Triple → Type 0) → Type 0
  Found P = (t : Triple) × IsValue E t × P t

  found : (P : Triple → Type 0) → Any P (triples E) → Found P
  found P a = any_with P (IsValue E) (triples E) (values E) a

  pub bounded_cause : (fail : PolyFail) → IsFormCause fail E → IsFormCause fail B
  bounded_cause (Past Coefficient) a =
      let t = found (λ (t : Triple). number_limit ≤ unsigned_abs t.2) a in
      coefficient_cause (Past Coefficient) B (cause_bound (Past Coefficient) E B bound (t.0.0, (t.0.1, subst (λ z. number_limit ≤ unsigned_abs z) (sym t.1.0) t.2)))
  bounded_cause (Past Exponent) a =
      let t = found (λ (t : Triple). (v : ℕ) × (greatest_exponent < exponent t.1 v)) a in
      coefficient_cause (Past Exponent) B (cause_bound (Past Exponent) E B bound (t.0.0, (t.0.1, (λ z. t.1.1 (sym t.1.0 ∙ z)), t.2)))
  bounded_cause (Past Terms) a = let f = fewer_triples E B bound in omega arith
  bounded_cause (Past Order) a =
      let t = found (λ (t : Triple). greatest_form_order < order t.0.counts) a in
      triple_of B t.0.0 (λ (u : Triple). greatest_form_order < order u.0.counts) (occurs t.0 t.1) (λ m x. t.2)
  bounded_cause (Past Unknowns) a = absurd a
  bounded_cause (Past Width) a = absurd a
  bounded_cause NoMemory a = tt

-- what bounds a form is not within the limits where the form is past one
pub within_bounded : (E B : LinearForm) → IsFormBound E B → IsFormWithinLimits B → IsFormWithinLimits E
within_bounded E B bound w = go (within_or_past (AForm E))
  where
    go : IsMadeWithin (AForm E) ⊎ ((limit : Limit) × IsMadePast limit (AForm E)) → IsFormWithinLimits E
    go (inl h) = h
    go (inr (OnCoefficients, h)) = absurd (not_within_and_past OnCoefficients (AForm B) w (bounded_cause E B bound (Past Coefficient) h))
    go (inr (OnExponents, h)) = absurd (not_within_and_past OnExponents (AForm B) w (bounded_cause E B bound (Past Exponent) h))
    go (inr (OnTerms, h)) = absurd (not_within_and_past OnTerms (AForm B) w (bounded_cause E B bound (Past Terms) h))
    go (inr (OnOrders, h)) = absurd (not_within_and_past OnOrders (AForm B) w (bounded_cause E B bound (Past Order) h))
    go (inr (OnUnknowns, h)) = absurd h
    go (inr (OnWidth, h)) = absurd h
