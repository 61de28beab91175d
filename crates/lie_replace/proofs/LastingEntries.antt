-- The terms of a form that last: they have the same derivatives, and grow by them.
use Rattle.std.specs.Prelude.{◌≡◌, ℕ, Bool, true, false, cond, T, List, [], ◌∷◌, ◌++◌, filter, ℤ, pos, unsigned_abs}
use Rattle.std.proofs.Common.{refl, sym, ap, ap₂, subst, subst₂, ◌∙◌, true≢false, is_lt}
use Rattle.std.proofs.lemmas.List.{map-append}
use Rattle.std.specs.List.{AllByRecursion as Every}
use Rattle.lie_math.specs.Canonical.{sum_of_entries-append, both, first, second}
use Rattle.lie_math.specs.Counts.{Derivative}
use Rattle.lie_math.specs.FiniteSum as finite
use Rattle.lie_math.specs.FiniteSum.{IsCanonical}
use Rattle.lie_math.specs.FiniteSumLaws as finite_laws
use Rattle.lie_math.specs.FiniteSumLaws.{of_list, list-of, value-of, none_of_is, is_none_none, term_additive, plus_idl}
use Rattle.lie_math.specs.Integer.{coefficients}
use Rattle.lie_math.specs.Limits.{absolute, absolutes, HasLowExponents, IsWithinLimits}
use Rattle.lie_math.specs.LinearForm.{forms, ◌+ᶠ◌, form_term}
use Rattle.lie_math.specs.LinearSystem.{Unknown}
use Rattle.lie_math.specs.Monomial.{Monomial, monomial_cmp}
use Rattle.lie_math.specs.Polynomial.{WholePolynomial, terms, coefficient, polynomial_of, 0ᴾ, ◌+ᴾ◌}
use Rattle.lie_math.specs.SortedSum.{below_all}
use Rattle.lie_math.proofs.CanonicalLists.{canonical_value, canonical_below, canonical_tail, canonical_cons, of-cons, value_has}
use Rattle.lie_math.proofs.EveryElement.{every-append}
use Rattle.lie_math.proofs.Limits.{absolute_of, canonical_absolutes, nonneg_absolutes, covered_second, nonneg_sum}
use Rattle.lie_replace.specs.Growing.{FormLasts}
use Rattle.lie_replace.specs.Replacing.{derivatives_by, needs, meets, meeting, lasting_part, form_of, lasting_entry, lasting_entries}
use Rattle.lie_lin.specs.Forms.{unless_zero}
use Rattle.lie_jet.proofs.PolynomialBounds.{coefficient_absolute, IsBound, sum_bound, plain_bound, trans_bound}
use Rattle.lie_jet.proofs.Absolutes.{within_starved, within_absolute}
use Rattle.lie_ring.specs.Causes.{IsCause}
use Rattle.lie_ring.specs.declared.failures.PolyFail.{PolyFail}
use Rattle.lie_poly.specs.Failures.{IsStarved}
use Rattle.lie_poly.proofs.SumSteps.{cause_covered}
use Rattle.lie_geometry.proofs.AbsoluteForms.{entry_absolutes}
use Rattle.lie_replace.proofs.DerivativesBy.{derivatives_by-plus}
use Rattle.lie_replace.proofs.LastingForms.{Lasts, lasts_at, lasting_of, form_lasts_none, form_lasts_plus, form_lasts_term}
use Rattle.lie_replace.proofs.LastingTerms.{meets_lasting, part_same}

-- ---- canonical lists without some of their entries
below_filter : (t : Monomial × ℤ → Bool) (m : Monomial) (es : List (Monomial × ℤ)) → T (below_all monomial_cmp coefficients m es) → T (below_all monomial_cmp coefficients m (filter t es))
below_filter t m [] h = tt
below_filter t m (e ∷ es) h = by (t e) (below_filter t m es (second (is_lt (monomial_cmp m e.0)) _ h))
  where
    by : (b : Bool) → T (below_all monomial_cmp coefficients m (filter t es)) → T (below_all monomial_cmp coefficients m (cond b (e ∷ filter t es) (filter t es)))
    by true r = both _ (below_all monomial_cmp coefficients m (filter t es)) (first _ (below_all monomial_cmp coefficients m es) h) r
    by false r = r

pub canonical_filter : (t : Monomial × ℤ → Bool) (es : List (Monomial × ℤ)) → IsCanonical terms es → IsCanonical terms (filter t es)
canonical_filter t [] h = tt
canonical_filter t (e ∷ es) h = by (t e) (canonical_filter t es (canonical_tail terms e es h))
  where
    by : (b : Bool) → IsCanonical terms (filter t es) → IsCanonical terms (cond b (e ∷ filter t es) (filter t es))
    by true r = canonical_cons terms e (filter t es) (canonical_value terms e es h) (below_filter t e.0 es (canonical_below terms e es h)) r
    by false r = r

meeting_absolutes : (xs : List (ℕ × ℕ)) (es : List (Monomial × ℤ)) → meeting xs (absolutes es) ≡ absolutes (meeting xs es)
meeting_absolutes xs [] = refl
meeting_absolutes xs (e ∷ es) = by (meets xs e.0) (meeting_absolutes xs es)
  where
    by : (b : Bool) → meeting xs (absolutes es) ≡ absolutes (meeting xs es) → cond b ((e.0, pos (unsigned_abs e.1)) ∷ meeting xs (absolutes es)) (meeting xs (absolutes es)) ≡ absolutes (cond b (e ∷ meeting xs es) (meeting xs es))
    by true r = ap (λ ys. (e.0, pos (unsigned_abs e.1)) ∷ ys) r
    by false r = r

all_meet : (xs : List (ℕ × ℕ)) (es : List (Monomial × ℤ)) → Every (λ (e : Monomial × ℤ). meets xs e.0 ≡ true) (meeting xs es)
all_meet xs [] = tt
all_meet xs (e ∷ es) = by (meets xs e.0) refl (all_meet xs es)
  where
    by : (b : Bool) → meets xs e.0 ≡ b → Every (λ (e : Monomial × ℤ). meets xs e.0 ≡ true) (meeting xs es) → Every (λ (e : Monomial × ℤ). meets xs e.0 ≡ true) (cond b (e ∷ meeting xs es) (meeting xs es))
    by true q r = (q, r)
    by false q r = r

module _ (us : List Unknown) (vs : List ℕ) where
  lasting_absolute : (f : ℕ) (p : WholePolynomial) → lasting_part us vs f (absolute p) ≡ absolute (lasting_part us vs f p)
  unfolding absolute
  lasting_absolute f p =
      ap (λ es. polynomial_of (meeting (needs us vs f) es)) (list-of terms (absolutes p.list) (canonical_absolutes p.list p.canonical))
      ∙ ap polynomial_of (meeting_absolutes (needs us vs f) p.list)
      ∙ sym (absolute_of (meeting (needs us vs f) p.list) (canonical_filter (λ e. meets (needs us vs f) e.0) p.list p.canonical))

  -- the exponents of a polynomial are low
  abbrev pub IsLow : WholePolynomial → Type 0
  IsLow p = (m : Monomial) → ¬ (coefficient p m ≡ pos 0) → HasLowExponents m

  part_lasts : (f : ℕ) (p : WholePolynomial) → IsLow (lasting_part us vs f p) → Lasts us vs f (lasting_part us vs f p)
  part_lasts f p low = lasts_at us vs f (lasting_part us vs f p) (λ m n. meets_lasting us vs f m (met m n) (low m n))
    where
      canonical : IsCanonical terms (meeting (needs us vs f) p.list)
      canonical = canonical_filter (λ e. meets (needs us vs f) e.0) p.list p.canonical

      met : (m : Monomial) → ¬ (coefficient (lasting_part us vs f p) m ≡ pos 0) → meets (needs us vs f) m ≡ true
      met m n = value_has terms (λ (e : Monomial × ℤ). meets (needs us vs f) e.0 ≡ true) m (meeting (needs us vs f) p.list) canonical (all_meet (needs us vs f) p.list) (λ z. n (value-of terms (meeting (needs us vs f) p.list) m ∙ z))

  sizes_last : (f : ℕ) (p : WholePolynomial) → Lasts us vs f p → Lasts us vs f (absolute p)
  sizes_last f p h = lasts_at us vs f (absolute p) (λ m n. lasting_of us vs f p h m (λ z. n (coefficient_absolute p m ∙ ap (λ y. pos (unsigned_abs y)) z)))

  -- ---- entries
  form_of-unless : (d : Derivative) (p : WholePolynomial) → form_of (unless_zero d p []) ≡ form_term d p
  form_of-unless d p = by (finite.is_none terms p) refl
    where
      by : (b : Bool) → finite.is_none terms p ≡ b → form_of (cond b [] ((d, p) ∷ [])) ≡ form_term d p
      by true e = sym (ap (form_term d) (none_of_is terms p e) ∙ (term_additive forms).on_nil d)
      by false e = Rattle.lie_math.specs.Canonical.idr (finite_laws.adder forms) (form_term d p)

  form_of-append : (xs ys : List (Derivative × WholePolynomial)) → form_of (xs ++ ys) ≡ form_of xs +ᶠ form_of ys
  form_of-append xs ys = sum_of_entries-append (finite_laws.adder forms) form_term xs ys

  -- the derivatives stay
  pub derivatives_kept : (es : List (Derivative × WholePolynomial)) → derivatives_by us vs (form_of (lasting_entries us vs es)) ≡ derivatives_by us vs (form_of es)
  derivatives_kept [] = refl
  derivatives_kept (e ∷ es) =
      ap (derivatives_by us vs) (form_of-append (lasting_entry us vs e) (lasting_entries us vs es) ∙ ap (λ G. G +ᶠ form_of (lasting_entries us vs es)) (form_of-unless e.0 (lasting_part us vs (e.0).unknown e.1)))
      ∙ derivatives_by-plus us vs (form_term e.0 (lasting_part us vs (e.0).unknown e.1)) (form_of (lasting_entries us vs es))
      ∙ ap₂ ◌+ᶠ◌ (part_same us vs (e.0).unknown e.0 refl e.1) (derivatives_kept es)
      ∙ sym (derivatives_by-plus us vs (form_term e.0 e.1) (form_of es))

  same_test : (p : WholePolynomial) → finite.is_none terms (absolute p) ≡ finite.is_none terms p
  unfolding absolute
  same_test p = ap finite.list_is_empty (list-of terms (absolutes p.list) (canonical_absolutes p.list p.canonical)) ∙ by p.list
    where
      by : (es : List (Monomial × ℤ)) → finite.list_is_empty (absolutes es) ≡ finite.list_is_empty es
      by [] = refl
      by (e ∷ es) = refl

  sizes_of-unless : (d : Derivative) (p : WholePolynomial) → entry_absolutes (unless_zero d p []) ≡ unless_zero d (absolute p) []
  sizes_of-unless d p = by (finite.is_none terms p) ∙ ap (λ b. cond b [] ((d, absolute p) ∷ [])) (sym (same_test p))
    where
      by : (b : Bool) → entry_absolutes (cond b [] ((d, p) ∷ [])) ≡ cond b [] ((d, absolute p) ∷ [])
      by true = refl
      by false = refl

  pub sizes_kept : (es : List (Derivative × WholePolynomial)) → entry_absolutes (lasting_entries us vs es) ≡ lasting_entries us vs (entry_absolutes es)
  sizes_kept [] = refl
  sizes_kept (e ∷ es) =
      map-append (λ (e : Derivative × WholePolynomial). (e.0, absolute e.1)) (lasting_entry us vs e) (lasting_entries us vs es)
      ∙ ap₂ ◌++◌ (sizes_of-unless e.0 (lasting_part us vs (e.0).unknown e.1) ∙ ap (λ p. unless_zero e.0 p []) (sym (lasting_absolute (e.0).unknown e.1))) (sizes_kept es)

  -- what is kept lasts
  pub kept_lasts : (es : List (Derivative × WholePolynomial)) → Every (λ (e : Derivative × WholePolynomial). IsLow (lasting_part us vs (e.0).unknown e.1)) es → FormLasts us vs (form_of (entry_absolutes (lasting_entries us vs es)))
  kept_lasts [] h = form_lasts_none us vs
  kept_lasts (e ∷ es) h = more (lasting_part us vs (e.0).unknown e.1) (sizes_last (e.0).unknown (lasting_part us vs (e.0).unknown e.1) (part_lasts (e.0).unknown e.1 h.0)) (kept_lasts es h.1)
    where
      more : (p : WholePolynomial) → Lasts us vs (e.0).unknown (absolute p) → FormLasts us vs (form_of (entry_absolutes (lasting_entries us vs es))) → FormLasts us vs (form_of (entry_absolutes (unless_zero e.0 p [] ++ lasting_entries us vs es)))
      more p l rest =
          subst (FormLasts us vs)
          (sym (ap form_of (map-append (λ (e : Derivative × WholePolynomial). (e.0, absolute e.1)) (unless_zero e.0 p []) (lasting_entries us vs es) ∙ ap (λ xs. xs ++ entry_absolutes (lasting_entries us vs es)) (sizes_of-unless e.0 p))
          ∙ form_of-append (unless_zero e.0 (absolute p) []) (entry_absolutes (lasting_entries us vs es)) ∙ ap (λ G. G +ᶠ form_of (entry_absolutes (lasting_entries us vs es))) (form_of-unless e.0 (absolute p))))
          (form_lasts_plus us vs (form_term e.0 (absolute p)) (form_of (entry_absolutes (lasting_entries us vs es))) (form_lasts_term us vs e.0 (absolute p) l) rest)

  -- and is not 0
  pub kept_apart : (es : List (Derivative × WholePolynomial)) → Every (λ (e : Derivative × WholePolynomial). ¬ (e.1 ≡ 0ᴾ)) (lasting_entries us vs es)
  kept_apart [] = tt
  kept_apart (e ∷ es) = every-append (λ (e : Derivative × WholePolynomial). ¬ (e.1 ≡ 0ᴾ)) (lasting_entry us vs e) (lasting_entries us vs es) (one e.0 (lasting_part us vs (e.0).unknown e.1)) (kept_apart es)
    where
      one : (d : Derivative) (p : WholePolynomial) → Every (λ (e : Derivative × WholePolynomial). ¬ (e.1 ≡ 0ᴾ)) (unless_zero d p [])
      one d p = by (finite.is_none terms p) refl
        where
          by : (b : Bool) → finite.is_none terms p ≡ b → Every (λ (e : Derivative × WholePolynomial). ¬ (e.1 ≡ 0ᴾ)) (cond b [] ((d, p) ∷ []))
          by true e = tt
          by false e = ((λ z. true≢false (sym (is_none_none terms) ∙ ap (finite.is_none terms) (sym z) ∙ e)), tt)

-- ---- the limits of a part
filter_bound : (t : Monomial × ℤ → Bool) (es : List (Monomial × ℤ)) → IsBound (polynomial_of (absolutes (filter t es))) (polynomial_of (absolutes es))
filter_bound t [] = plain_bound (polynomial_of []) (nonneg_absolutes [])
filter_bound t (e ∷ es) = by (t e) (filter_bound t es)
  where
    more : (xs : List (Monomial × ℤ)) → polynomial_of (absolutes (e ∷ xs)) ≡ polynomial_of (absolutes (e ∷ [])) +ᴾ polynomial_of (absolutes xs)
    more xs = of-cons terms (e.0, pos (unsigned_abs e.1)) (absolutes xs)

    by : (b : Bool) → IsBound (polynomial_of (absolutes (filter t es))) (polynomial_of (absolutes es)) → IsBound (polynomial_of (absolutes (cond b (e ∷ filter t es) (filter t es)))) (polynomial_of (absolutes (e ∷ es)))
    by true h = subst₂ IsBound (sym (more (filter t es))) (sym (more es)) (sum_bound _ _ _ _ (plain_bound (polynomial_of (absolutes (e ∷ []))) (nonneg_absolutes (e ∷ []))) h)
    by false h =
        trans_bound _ (polynomial_of (absolutes es)) _ h
        (subst (IsBound (polynomial_of (absolutes es))) (sym (more es)) (record { covered = covered_second (polynomial_of (absolutes (e ∷ []))) (polynomial_of (absolutes es)) (nonneg_absolutes (e ∷ [])) (nonneg_absolutes es); plain = nonneg_sum (polynomial_of (absolutes (e ∷ []))) (polynomial_of (absolutes es)) (nonneg_absolutes (e ∷ [])) (nonneg_absolutes es) }))

-- a part of what is within the limits fails for want of memory alone
pub part_starved : (xs : List (ℕ × ℕ)) (p : WholePolynomial) (ts : List (Monomial × ℤ)) (fail : PolyFail) → IsWithinLimits p → ts ≡ meeting xs p.list → IsCause fail (polynomial_of (absolutes ts)) → IsStarved fail
unfolding absolute
part_starved xs p ts fail w is c = within_starved fail (absolute p) (within_absolute p w) (cause_covered fail (polynomial_of (absolutes (meeting xs p.list))) (absolute p) (filter_bound (λ e. meets xs e.0) p.list).covered (subst (λ us. IsCause fail (polynomial_of (absolutes us))) is c))
