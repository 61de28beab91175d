-- What holds of lists of tallies.
use Rattle.std.proofs.Common.{◌≡◌, suc, ◌<◌, ◌≤◌, ◌^◌, List, [], ◌∷◌, ◌++◌, length, refl, sym, ap, ◌∙◌, subst, arith, Bool, true, false, cond, not, T, ℤ, pos}
use Rattle.std.specs.Prelude.{unsigned_abs}
use Rattle.lie_math.specs.SortedSum.{below_all}
use Rattle.lie_math.specs.Canonical.{both, first, second}
use Rattle.lie_math.specs.FiniteSumLaws as finite_laws
use Rattle.lie_math.specs.Monomial.{Monomial, monomial_cmp}
use Rattle.lie_math.specs.Integer.{coefficients, is_zero_int, int_nil}
use Rattle.lie_math.specs.Polynomial.{polynomial_of, terms, ◌+ᴾ◌, term}
use Rattle.lie_math.specs.Limits.{FitsNumber, IsWithinLimits}
use Rattle.lie_poly.specs.Bulk.{IsBulkOf, AreWithin}
use Rattle.lie_math.specs.FiniteSum.{IsCanonical}
use Rattle.lie_math.proofs.CanonicalLists.{canonical_below, canonical_tail, canonical_cons, of-cons}
use Rattle.lie_math.proofs.Limits.{IsNonNegative, term_is}
use Rattle.lie_poly.proofs.BulkLists.{limits_of, bulk_nonneg}
use Rattle.lie_poly.specs.declared.tally.Tally.{Tally}
use Rattle.lie_poly.specs.Sorted.{IsSorted}
use Rattle.lie_poly.specs.Tallies.{sums, bulks, bulk_of, IsTallied, with_term, without_zeros}

module _ {C : Type 0} (value : C → ℤ) where
  pub sums-append : (xs ys : List (Tally C)) → sums value (xs ++ ys) ≡ sums value xs ++ sums value ys
  sums-append [] ys = refl
  sums-append (x ∷ xs) ys = ap (λ es. (x.mono, value x.sum) ∷ es) (sums-append xs ys)

  pub bulks-append : (xs ys : List (Tally C)) → bulks (xs ++ ys) ≡ bulks xs ++ bulks ys
  bulks-append [] ys = refl
  bulks-append (x ∷ xs) ys = ap (λ es. (x.mono, pos x.bulk) ∷ es) (bulks-append xs ys)

  pub length-bulks : (xs : List (Tally C)) → length (bulks xs) ≡ length xs
  length-bulks [] = refl
  length-bulks (x ∷ xs) = ap suc (length-bulks xs)

  pub tallied_nonneg : (ts : List (Tally C)) → IsBulkOf (sums value ts) (bulks ts) → IsNonNegative (bulk_of ts)
  tallied_nonneg ts h = bulk_nonneg (sums value ts) (bulks ts) h

  pub tallied_limits : (ts : List (Tally C)) → IsTallied value ts → IsWithinLimits (bulk_of ts)
  tallied_limits ts h = limits_of (bulks ts) h.ordered h.within (let n : length ts ≤ 1000000 = h.few in omega (arith, length-bulks ts))

  -- ---- the terms that are left

  below_zeros : (m : Monomial) (ts : List (Tally C)) → T (below_all monomial_cmp coefficients m (bulks ts)) → T (below_all monomial_cmp coefficients m (without_zeros (sums value ts)))
  below_zeros m [] h = tt
  below_zeros m (t ∷ ts) h =
      elim (is_zero_int (value t.sum)) as (λ z. T (below_all monomial_cmp coefficients m (cond z (without_zeros (sums value ts)) ((t.mono, value t.sum) ∷ without_zeros (sums value ts))))) [
        | true ↦ below_zeros m ts (second _ (below_all monomial_cmp coefficients m (bulks ts)) h)
        | false ↦ both _ (below_all monomial_cmp coefficients m (without_zeros (sums value ts))) (first _ (below_all monomial_cmp coefficients m (bulks ts)) h) (below_zeros m ts (second _ (below_all monomial_cmp coefficients m (bulks ts)) h))
      ]

  zeros_ordered : (ts : List (Tally C)) → IsCanonical terms (bulks ts) → IsCanonical terms (without_zeros (sums value ts))
  zeros_ordered [] h = tt
  zeros_ordered (t ∷ ts) h = by_test (zeros_ordered ts (canonical_tail terms (t.mono, pos t.bulk) (bulks ts) h)) (is_zero_int (value t.sum)) refl
    where
      by_test : IsCanonical terms (without_zeros (sums value ts)) → (z : Bool) → is_zero_int (value t.sum) ≡ z → IsCanonical terms (cond z (without_zeros (sums value ts)) ((t.mono, value t.sum) ∷ without_zeros (sums value ts)))
      by_test rest true e = rest
      by_test rest false e =
          canonical_cons terms (t.mono, value t.sum) (without_zeros (sums value ts)) (subst (λ z. T (not z)) (sym e) tt) (below_zeros t.mono ts (canonical_below terms (t.mono, pos t.bulk) (bulks ts) h)) rest

  zeros_within : (ts : List (Tally C)) → IsBulkOf (sums value ts) (bulks ts) → AreWithin (bulks ts) → AreWithin (without_zeros (sums value ts))
  zeros_within [] b h = tt
  zeros_within (t ∷ ts) b h =
      let rest : AreWithin (without_zeros (sums value ts)) = zeros_within ts b.3 h.2 in
      let fits : FitsNumber (value t.sum) = let c : unsigned_abs (value t.sum) ≤ t.bulk = b.1 in let f : t.bulk < 2 ^ 127 = h.0 in omega arith in
      elim (is_zero_int (value t.sum)) as (λ z. AreWithin (cond z (without_zeros (sums value ts)) ((t.mono, value t.sum) ∷ without_zeros (sums value ts)))) [
        | true ↦ rest
        | false ↦ (fits, h.1, rest)
      ]

  zeros_fewer : (ts : List (Tally C)) → length (without_zeros (sums value ts)) ≤ length ts
  zeros_fewer [] = omega arith
  zeros_fewer (t ∷ ts) = by_test (zeros_fewer ts) (is_zero_int (value t.sum))
    where
      by_test : length (without_zeros (sums value ts)) ≤ length ts → (z : Bool) → length (cond z (without_zeros (sums value ts)) ((t.mono, value t.sum) ∷ without_zeros (sums value ts))) ≤ suc (length ts)
      by_test h true = omega arith
      by_test h false = omega arith

  pub zeros_sorted : (ts : List (Tally C)) → IsTallied value ts → IsSorted (without_zeros (sums value ts))
  zeros_sorted ts h = record {
    ordered = zeros_ordered ts h.ordered;
    within = zeros_within ts h.bulk h.within;
    few = let n : length ts ≤ 1000000 = h.few in omega (arith, zeros_fewer ts);
  }

-- leaving zeros out changes no sum
pub zeros_sum : (es : List (Monomial × ℤ)) → polynomial_of (without_zeros es) ≡ polynomial_of es
zeros_sum [] = refl
zeros_sum (e ∷ es) = by_test (zeros_sum es) (is_zero_int e.1) refl
  where
    by_test : polynomial_of (without_zeros es) ≡ polynomial_of es → (z : Bool) → is_zero_int e.1 ≡ z → polynomial_of (cond z (without_zeros es) (e ∷ without_zeros es)) ≡ polynomial_of (e ∷ es)
    by_test h true t =
        h ∙ sym (of-cons terms e es ∙ ap (λ p. p +ᴾ polynomial_of es) (sym (term_is e.0 e.1) ∙ ap (term e.0) (int_nil e.1 t) ∙ (finite_laws.term_additive terms).on_nil e.0) ∙ finite_laws.plus_idl terms (polynomial_of es))
    by_test h false t = of-cons terms e (without_zeros es) ∙ ap (λ p. polynomial_of (e ∷ []) +ᴾ p) h ∙ sym (of-cons terms e es)

pub zeros_append : (es fs : List (Monomial × ℤ)) → without_zeros (es ++ fs) ≡ without_zeros es ++ without_zeros fs
zeros_append [] fs = refl
zeros_append (e ∷ es) fs =
    ap (λ gs. with_term e.0 e.1 gs) (zeros_append es fs)
    ∙ (elim (is_zero_int e.1) as (λ z. cond z (without_zeros es ++ without_zeros fs) (e ∷ (without_zeros es ++ without_zeros fs)) ≡ cond z (without_zeros es) (e ∷ without_zeros es) ++ without_zeros fs) [ true ↦ refl | false ↦ refl ])

pub with_other : (m : Monomial) (z : ℤ) (es : List (Monomial × ℤ)) → ¬ (unsigned_abs z ≡ 0) → with_term m z es ≡ (m, z) ∷ es
with_other m z es n = by_test (is_zero_int z) refl
  where
    by_test : (t : Bool) → is_zero_int z ≡ t → cond t es ((m, z) ∷ es) ≡ (m, z) ∷ es
    by_test true f = absurd (n (ap unsigned_abs (int_nil z f)))
    by_test false f = refl

pub with_append : (m : Monomial) (z : ℤ) (es : List (Monomial × ℤ)) → with_term m z [] ++ es ≡ with_term m z es
with_append m z es = elim (is_zero_int z) as (λ t. cond t [] ((m, z) ∷ []) ++ es ≡ cond t es ((m, z) ∷ es)) [ true ↦ refl | false ↦ refl ]
