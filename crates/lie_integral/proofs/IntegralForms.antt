-- Integrals of forms: their coefficients are those of the form, integrated term by term, and what is past a limit in one is past it in all.
use Rattle.std.specs.Prelude.{◌≡◌, ℕ, ◌+◌, ◌<◌, ◌≤◌, not, T, List, [], ◌∷◌, ◌++◌, map, length, take, get_or, ℤ, pos, ◌*ℤ◌, unsigned_abs}
use Rattle.std.specs.Int.{◌∣◌}
use Rattle.std.specs.List.{AllByRecursion as Every}
use Rattle.std.proofs.Common.{refl, sym, ap, ap₂, subst, ◌∙◌, arith, is_lt}
use Rattle.std.proofs.lemmas.List.{length-map, map-append}
use Rattle.lie_math.specs.Canonical.{both, first, second}
use Rattle.lie_math.specs.Counts.{Derivative, derivative_cmp}
use Rattle.lie_math.specs.FiniteSum as finite
use Rattle.lie_math.specs.FiniteSum.{IsCanonical, list_is_empty}
use Rattle.lie_math.specs.FiniteSumLaws as finite_laws
use Rattle.lie_math.specs.Integer.{coefficients}
use Rattle.lie_math.specs.Limits.{absolute, absolutes, number_limit}
use Rattle.lie_math.specs.LinearForm.{LinearForm, forms}
use Rattle.lie_math.specs.Monomial.{Monomial, monomial_cmp, power_of}
use Rattle.lie_math.specs.Polynomial.{WholePolynomial, terms, term, coefficient, polynomial_of}
use Rattle.lie_math.specs.SortedSum.{below_all}
use Rattle.lie_math.proofs.CanonicalLists.{canonical_value, canonical_below, canonical_tail, canonical_cons}
use Rattle.lie_math.proofs.EveryElement.{every-front, every-back, every_mapped}
use Rattle.lie_math.proofs.FiniteSum.{entries_of}
use Rattle.lie_math.proofs.Integer.{unsigned_abs_zero}
use Rattle.lie_math.proofs.Limits.{absolute_of, coefficient-term, term_is}
use Rattle.lie_math.proofs.PrintOrder.{monomial_cmp-·}
use Rattle.lie_math.proofs.TermWise.{entry_covered, not_zero_test, test_not_zero}
use Rattle.lie_systems.specs.Triples.{Triple, triples, triples_in, triples_with, sum_of_triples}
use Rattle.lie_systems.proofs.Triples.{sum_of_triples-triples}
use Rattle.lie_ring.specs.Causes.{IsCause, IsProductCause}
use Rattle.lie_ring.specs.declared.failures.PastKind.TheVariants.{Coefficient, Exponent, Terms, Order, Unknowns, Width}
use Rattle.lie_ring.specs.declared.failures.PolyFail.{PolyFail}
use Rattle.lie_ring.specs.declared.failures.PolyFail.TheVariants.{Past, NoMemory}
use Rattle.lie_ring.proofs.Fronts.{take_more}
use Rattle.lie_poly.proofs.SumSteps.{cause_covered}
use Rattle.lie_jet.specs.Derivatives.{derivative_of}
use Rattle.lie_jet.specs.declared.derivative.Der.{Der}
use Rattle.lie_jet.proofs.ListPlaces.{get_map}
use Rattle.lie_form.specs.FormLimits.{IsFormCoefficientCause}
use Rattle.lie_form.proofs.FormBounds.{at, at_absolute}
use Rattle.lie_lin.specs.Forms.{coefficients_of, AreCoefficients}
use Rattle.lie_lin.proofs.Forms.{coefficients_of-append}
use Rattle.lie_normal.proofs.AbsoluteForms.{absolute_form_is}
use Rattle.lie_steps.specs.Bulks.{absolute_form}
use Rattle.lie_steps.specs.Integrate.{divisor, Clears, integrated_triple, integral}
use Rattle.lie_integral.specs.Fractions.{IsPositive}
use Rattle.lie_integral.specs.Integrals.{integrated_term, integrated_terms, integrated_polynomial, ClearsTerm}
use Rattle.lie_integral.proofs.KeptTerms.{entry_at}
use Rattle.lie_integral.proofs.IntegralNumbers.{integrated_apart}

-- derivatives with their coefficients integrated
abbrev pub integrated_entries : ℤ → ℕ → ℕ → ℕ → List (Derivative × WholePolynomial) → List (Derivative × WholePolynomial)
integrated_entries c v k L es = map (λ (e : Derivative × WholePolynomial). (e.0, integrated_polynomial c v k L e.1)) es

module _ (c : ℤ) (apart : ¬ (c ≡ pos 0)) (v k : ℕ) (L : ℤ) (p : IsPositive L) where
  -- ---- the terms of one polynomial
  abbrev pub I : Monomial × ℤ → Monomial × ℤ
  I e = integrated_term c v k (unsigned_abs L) e

  abbrev pub AreCleared : List (Monomial × ℤ) → Type 0
  AreCleared es = Every (ClearsTerm c v k (unsigned_abs L)) es

  below_integrated : (m : Monomial) (a : ℤ) (es : List (Monomial × ℤ)) → T (below_all monomial_cmp coefficients m es)
      → T (below_all monomial_cmp coefficients (I (m, a)).0 (map (integrated_term c v k (unsigned_abs L)) es))
  below_integrated m a [] h = tt
  below_integrated m a (e ∷ es) h =
      both _ (below_all monomial_cmp coefficients (I (m, a)).0 (map (integrated_term c v k (unsigned_abs L)) es))
      (subst (λ r. T (is_lt r)) (sym (monomial_cmp-· (power_of v k) m e.0)) (first _ (below_all monomial_cmp coefficients m es) h))
      (below_integrated m a es (second (is_lt (monomial_cmp m e.0)) _ h))

  pub canonical_integrated : (es : List (Monomial × ℤ)) → IsCanonical terms es → AreCleared es
      → IsCanonical terms (map (integrated_term c v k (unsigned_abs L)) es)
  canonical_integrated [] h clears = tt
  canonical_integrated (e ∷ es) h clears =
      canonical_cons terms (I e) (map (integrated_term c v k (unsigned_abs L)) es)
      (not_zero_test (I e).1 (integrated_apart c v k apart L p e clears.0 (test_not_zero e.1 (canonical_value terms e es h))))
      (below_integrated e.0 e.1 es (canonical_below terms e es h)) (canonical_integrated es (canonical_tail terms e es h) clears.1)

  abbrev pub P : WholePolynomial → WholePolynomial
  P a = integrated_polynomial c v k (unsigned_abs L) a

  pub list_integrated : (a : WholePolynomial) → AreCleared a.list → (P a).list ≡ integrated_terms c v k (unsigned_abs L) a
  list_integrated a clears = finite_laws.list-of terms (integrated_terms c v k (unsigned_abs L) a)
      (canonical_integrated a.list a.canonical clears)

  pub absolute_integrated : (a : WholePolynomial) → AreCleared a.list
      → absolute (P a) ≡ polynomial_of (absolutes (integrated_terms c v k (unsigned_abs L) a))
  absolute_integrated a clears = absolute_of (integrated_terms c v k (unsigned_abs L) a) (canonical_integrated a.list a.canonical clears)

  entry_place : (es : List (Monomial × ℤ)) (i : ℕ) (e : Monomial × ℤ) → i < length es → e ≡ get_or es i e
      → (i < length (map (integrated_term c v k (unsigned_abs L)) es))
      × (I e ≡ get_or (map (integrated_term c v k (unsigned_abs L)) es) i (I e))
  entry_place es i e h is = (
    (let l = length-map es (integrated_term c v k (unsigned_abs L)) in omega arith),
    get_map
        (integrated_term c v k (unsigned_abs L)) es i e is,
  )

  -- what is past a limit in one term
  pub term_cause : (a : WholePolynomial) → AreCleared a.list → (fail : PolyFail) (i : ℕ) (e : Monomial × ℤ) → i < length a.list
      → e ≡ get_or a.list i e → IsCause fail (polynomial_of (absolutes (integrated_term c v k (unsigned_abs L) e ∷ [])))
      → IsCause fail (absolute (integrated_polynomial c v k (unsigned_abs L) a))
  term_cause a clears fail i e h is cause =
      let p = entry_place a.list i e h is in
      subst (IsCause fail) (sym (absolute_integrated a clears))
      (cause_covered fail (term (I e).0 (pos (unsigned_abs (I e).1)))
      (polynomial_of (absolutes (integrated_terms c v k (unsigned_abs L) a)))
      (entry_covered (integrated_terms c v k (unsigned_abs L) a) i (I e) p.0 p.1)
      (subst (IsCause fail) (sym (term_is (I e).0 (pos (unsigned_abs (I e).1)))) cause))

  -- ---- the coefficients of a form
  abbrev entries_integrated : List (Derivative × WholePolynomial) → List (Derivative × WholePolynomial)
  entries_integrated es = integrated_entries c v k (unsigned_abs L) es

  abbrev EntryCleared : Derivative × WholePolynomial → Type 0
  EntryCleared e = AreCleared e.1.list

  with_cleared : (d : Derivative) (es : List (Monomial × ℤ)) → Clears c v k (triples_with d es) (unsigned_abs L) → AreCleared es
  with_cleared d [] h = tt
  with_cleared d (e ∷ es) h = (h.0, with_cleared d es h.1)

  entries_cleared : (es : List (Derivative × WholePolynomial)) → Clears c v k (triples_in es) (unsigned_abs L) → Every EntryCleared es
  entries_cleared [] h = tt
  entries_cleared (e ∷ es) h = (
    with_cleared e.0 e.1.list (every-front (λ (t : Triple). unsigned_abs (divisor c v k t) ∣ unsigned_abs (pos (unsigned_abs L) *ℤ t.2))
        (triples_with e.0 e.1.list) (triples_in es) h),
    entries_cleared es (every-back (λ (t : Triple). unsigned_abs (divisor c v k t) ∣ unsigned_abs (pos (unsigned_abs L) *ℤ t.2))
        (triples_with e.0 e.1.list) (triples_in es) h),
  )

  below_entries : (d : Derivative) (es : List (Derivative × WholePolynomial)) → T (below_all derivative_cmp forms.values d es)
      → T (below_all derivative_cmp forms.values d (entries_integrated es))
  below_entries d [] h = tt
  below_entries d (e ∷ es) h = both _ (below_all derivative_cmp forms.values d (entries_integrated es))
      (first _ (below_all derivative_cmp forms.values d es) h) (below_entries d es (second (is_lt (derivative_cmp d e.0)) _ h))

  some_terms : (a : WholePolynomial) → AreCleared a.list → T (not (finite.is_none terms a)) → T (not (finite.is_none terms (P a)))
  some_terms a clears h = subst (λ (es : List (Monomial × ℤ)). T (not (list_is_empty es))) (sym (list_integrated a clears)) (by a.list h)
    where
      by : (es : List (Monomial × ℤ)) → T (not (list_is_empty es))
          → T (not (list_is_empty (map (integrated_term c v k (unsigned_abs L)) es)))
      by [] h = h
      by (e ∷ es) h = tt

  canonical_entries : (es : List (Derivative × WholePolynomial)) → IsCanonical forms es → Every EntryCleared es
      → IsCanonical forms (entries_integrated es)
  canonical_entries [] h clears = tt
  canonical_entries (e ∷ es) h clears =
      canonical_cons forms (e.0, P e.1) (entries_integrated es) (some_terms e.1 clears.0 (canonical_value forms e es h))
      (below_entries e.0 es (canonical_below forms e es h)) (canonical_entries es (canonical_tail forms e es h) clears.1)

  triples_integrated_with : (d : Derivative) (es : List (Monomial × ℤ))
      → triples_with d (map (integrated_term c v k (unsigned_abs L)) es) ≡ map (integrated_triple c v k (unsigned_abs L))
      (triples_with d es)
  triples_integrated_with d [] = refl
  triples_integrated_with d (e ∷ es) = ap (λ ts. integrated_triple c v k (unsigned_abs L) (d, e.0, e.1) ∷ ts) (triples_integrated_with d es)

  triples_integrated : (es : List (Derivative × WholePolynomial)) → Every EntryCleared es
      → triples_in (entries_integrated es) ≡ map (integrated_triple c v k (unsigned_abs L)) (triples_in es)
  triples_integrated [] clears = refl
  triples_integrated (e ∷ es) clears =
      ap₂ ◌++◌ (ap (triples_with e.0) (list_integrated e.1 clears.0) ∙ triples_integrated_with e.0 e.1.list)
      (triples_integrated es clears.1)
      ∙ sym (map-append (integrated_triple c v k (unsigned_abs L)) (triples_with e.0 e.1.list) (triples_in es))

  module _ (R : LinearForm) (clears : Clears c v k (triples R) (unsigned_abs L)) where
    cleared : Every EntryCleared R.list
    cleared = entries_cleared R.list clears

    pub integrated_canonical : IsCanonical forms (entries_integrated R.list)
    integrated_canonical = canonical_entries R.list R.canonical cleared

    pub integral_is : integral c v k (unsigned_abs L) R ≡ finite.of forms (entries_integrated R.list)
    integral_is =
        ap sum_of_triples (sym (triples_integrated R.list cleared)
        ∙ ap triples_in (sym (finite_laws.list-of forms (entries_integrated R.list) integrated_canonical)))
        ∙ sum_of_triples-triples (finite.of forms (entries_integrated R.list))

    pub list_integral : (integral c v k (unsigned_abs L) R).list ≡ entries_integrated R.list
    list_integral = ap (λ (G : LinearForm). G.list) integral_is ∙ finite_laws.list-of forms (entries_integrated R.list) integrated_canonical

    values_integrated : Every (λ (e : Derivative × WholePolynomial). at
        (integral c v k (unsigned_abs L) R) e.0 ≡ integrated_polynomial c v k (unsigned_abs L) e.1) R.list
    values_integrated =
        every_mapped (λ (e : Derivative × WholePolynomial). at (integral c v k (unsigned_abs L) R) e.0 ≡ e.1)
        (λ (e : Derivative × WholePolynomial). (e.0, integrated_polynomial c v k (unsigned_abs L) e.1)) R.list
        (subst (Every (λ (e : Derivative × WholePolynomial). at (integral c v k (unsigned_abs L) R) e.0 ≡ e.1)) list_integral
        (entries_of forms (integral c v k (unsigned_abs L) R)
        (λ (e : Derivative × WholePolynomial). at (integral c v k (unsigned_abs L) R) e.0 ≡ e.1) (λ e is n. is)))

    -- ---- the coefficients as they are kept
    module _ (ts : List (Der × WholePolynomial)) (all : coefficients_of ts ≡ R.list) where
      pub cleared_at : (i : ℕ) (t : Der × WholePolynomial) → i < length ts → t ≡ get_or ts i t → AreCleared (t.1).list
      cleared_at i t h is = entry_at EntryCleared ts i t h is (subst (Every EntryCleared) (sym all) cleared)

      -- what is past a limit in one coefficient
      pub integral_cause : (fail : PolyFail) (i : ℕ) (t : Der × WholePolynomial) → i < length ts → t ≡ get_or ts i t
          → IsCause fail (absolute (P t.1)) → IsFormCoefficientCause fail (absolute_form (integral c v k (unsigned_abs L) R))
      integral_cause fail i t h is cause = (
        derivative_of t.0,
        subst (IsCause fail)
            (sym (ap (λ E. at E (derivative_of t.0)) (absolute_form_is (integral c v k (unsigned_abs L) R))
            ∙ at_absolute (integral c v k (unsigned_abs L) R) (derivative_of t.0)
            ∙ ap absolute (entry_at (λ (e : Derivative × WholePolynomial). at
            (integral c v k (unsigned_abs L) R) e.0 ≡ integrated_polynomial c v k (unsigned_abs L) e.1) ts i t h is
            (subst (Every (λ (e : Derivative × WholePolynomial). at
            (integral c v k (unsigned_abs L) R) e.0 ≡ integrated_polynomial c v k (unsigned_abs L) e.1))
            (sym all) values_integrated)))) cause,
      )

      pub integral_step : (old new : List (Der × WholePolynomial)) (i : ℕ) (t : Der × WholePolynomial) (q : WholePolynomial) → i < length ts
          → t ≡ get_or ts i t → new ≡ old ++ (t.0, q) ∷ [] → q ≡ P t.1
          → coefficients_of old ≡ entries_integrated (coefficients_of (take i ts))
          → coefficients_of new ≡ entries_integrated (coefficients_of (take (i + 1) ts))
      integral_step old new i t q h is e f g =
          ap coefficients_of e ∙ coefficients_of-append old ((t.0, q) ∷ [])
          ∙ ap₂ (λ xs (x : WholePolynomial). xs ++ (derivative_of t.0, x) ∷ []) g f
          ∙ sym (map-append (λ (e : Derivative × WholePolynomial). (e.0, integrated_polynomial c v k (unsigned_abs L) e.1))
          (coefficients_of (take i ts)) ((derivative_of t.0, t.1) ∷ []))
          ∙ ap entries_integrated (sym (coefficients_of-append (take i ts) (t ∷ [])) ∙ ap coefficients_of (take_more ts i t h is))

      pub integral_kept : (out : List (Der × WholePolynomial)) → coefficients_of out ≡ entries_integrated (coefficients_of ts)
          → AreCoefficients out
      integral_kept out e = subst (IsCanonical forms) (ap entries_integrated (sym all) ∙ sym e) integrated_canonical

      pub integral_made : (F : LinearForm) (out : List (Der × WholePolynomial)) → F ≡ finite.of forms (coefficients_of out)
          → coefficients_of out ≡ entries_integrated (coefficients_of ts) → F ≡ integral c v k (unsigned_abs L) R
      integral_made F out h e = h ∙ ap (finite.of forms) (e ∙ ap entries_integrated all) ∙ sym integral_is

-- ---- causes of one term
absolute_apart : (a : ℤ) → ¬ (a ≡ pos 0) → ¬ (pos (unsigned_abs a) ≡ pos 0)
absolute_apart a n z = n (unsigned_abs_zero a (ap unsigned_abs z))

pub wide_term : (e : Monomial × ℤ) → number_limit ≤ unsigned_abs e.1 → IsCause (Past Coefficient) (polynomial_of (absolutes (e ∷ [])))
wide_term e h = (
  e.0,
  subst (λ (z : ℤ). number_limit ≤ unsigned_abs z)
      (sym (ap (λ p. coefficient p e.0) (sym (term_is e.0 (pos (unsigned_abs e.1)))) ∙ coefficient-term e.0 (pos (unsigned_abs e.1)))) h,
)

pub product_cause : (fail : PolyFail) (e : Monomial × ℤ) → ¬ (e.1 ≡ pos 0) → IsProductCause fail e.0
    → IsCause fail (polynomial_of (absolutes (e ∷ [])))
product_cause (Past Exponent) e n h = (
  e.0,
  (λ z. absolute_apart e.1 n
      (sym (coefficient-term e.0 (pos (unsigned_abs e.1))) ∙ ap (λ p. coefficient p e.0) (term_is e.0 (pos (unsigned_abs e.1))) ∙ z)),
  h,
)
product_cause (Past Coefficient) e n h = absurd h
product_cause (Past Terms) e n h = absurd h
product_cause (Past Order) e n h = absurd h
product_cause (Past Unknowns) e n h = absurd h
product_cause (Past Width) e n h = absurd h
product_cause NoMemory e n h = tt

-- no number of a polynomial is 0
pub terms_apart : (a : WholePolynomial) → Every (λ (e : Monomial × ℤ). ¬ (e.1 ≡ pos 0)) a.list
terms_apart a = entries_of terms a (λ (e : Monomial × ℤ). ¬ (e.1 ≡ pos 0)) (λ e is n. n)
