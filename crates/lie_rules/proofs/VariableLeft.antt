-- A monomial without one of its variables: the other pairs.
use Rattle.std.specs.Prelude.{◌≡◌, ℕ, ◌+◌, ◌<◌, Bool, true, false, cond, not, eqb, T, List, [], ◌∷◌, ◌++◌, filter, length, take, get_or}
use Rattle.std.proofs.Common.{refl, sym, ap, subst, ◌∙◌, arith, is_lt, eq-eqb, is_eq, true≢false}
use Rattle.std.proofs.lemmas.List.Elements.{filter-append}
use Rattle.std.specs.Cmp.{nat_cmp_total, tied_itself}
use Rattle.std.specs.Ordering.{nat_cmp, eq_by_cmp}
use Rattle.lie_math.specs.Canonical.{both, first, second}
use Rattle.lie_math.specs.FiniteSum as finite
use Rattle.lie_math.specs.FiniteSum.{IsCanonical}
use Rattle.lie_math.specs.FiniteSumLaws.{of_same}
use Rattle.lie_math.specs.Monomial.{Monomial, monomial_of, powers}
use Rattle.lie_math.specs.Natural.{exponents}
use Rattle.lie_math.specs.SortedSum.{below_all, value_at}
use Rattle.lie_math.proofs.CanonicalLists.{canonical_value, canonical_below, canonical_tail, canonical_cons}
use Rattle.lie_math.proofs.FiniteSum.{key}
use Rattle.lie_math.proofs.Tests.{same_number}
use Rattle.lie_ring.proofs.Fronts.{take_more}

-- ---- lists that are filtered
pub filter_more : {X : Type 0} (p : X → Bool) (xs : List X) (i : ℕ) (x : X) → i < length xs → x ≡ get_or xs i x
    → filter p (take i xs) ++ filter p (x ∷ []) ≡ filter p (take (i + 1) xs)
filter_more p xs i x lt is = sym (filter-append p (take i xs) (x ∷ [])) ∙ ap (filter p) (take_more xs i x lt is)

below_filter : (p : ℕ × ℕ → Bool) (v : ℕ) (es : List (ℕ × ℕ)) → T (below_all nat_cmp exponents v es)
    → T (below_all nat_cmp exponents v (filter p es))
below_filter p v [] h = tt
below_filter p v (e ∷ es) h = go (p e) (below_filter p v es (second (is_lt (nat_cmp v e.0)) (below_all nat_cmp exponents v es) h))
  where
    go : (b : Bool) → T (below_all nat_cmp exponents v (filter p es))
        → T (below_all nat_cmp exponents v (cond b (e ∷ filter p es) (filter p es)))
    go true r =
        both (is_lt (nat_cmp v e.0)) (below_all nat_cmp exponents v (filter p es))
        (first (is_lt (nat_cmp v e.0)) (below_all nat_cmp exponents v es) h) r
    go false r = r

canonical_filter : (p : ℕ × ℕ → Bool) (es : List (ℕ × ℕ)) → IsCanonical powers es → IsCanonical powers (filter p es)
canonical_filter p [] h = tt
canonical_filter p (e ∷ es) h = go (p e) (canonical_filter p es (canonical_tail powers e es h))
  where
    go : (b : Bool) → IsCanonical powers (filter p es) → IsCanonical powers (cond b (e ∷ filter p es) (filter p es))
    go true r =
        canonical_cons powers e (filter p es) (canonical_value powers e es h) (below_filter p e.0 es (canonical_below powers e es h)) r
    go false r = r

-- ---- the pairs of other variables
module _ (v : ℕ) where
  abbrev pub other : ℕ × ℕ → Bool
  other e = not (eqb e.0 v)

  same_test : (w : ℕ) → eq_by_cmp nat_cmp v w ≡ eqb w v
  same_test w = go (eqb w v) refl (eq_by_cmp nat_cmp v w) refl
    where
      go : (s : Bool) → eqb w v ≡ s → (t : Bool) → eq_by_cmp nat_cmp v w ≡ t → t ≡ s
      go true e true k = refl
      go true e false k =
          absurd (true≢false (sym (ap (λ n. eq_by_cmp nat_cmp v n) (same_number w v e) ∙ ap is_eq (tied_itself nat_cmp_total v)) ∙ k))
      go false e true k = absurd (true≢false (sym (eq-eqb w v (sym (key powers v w k))) ∙ e))
      go false e false k = refl

  same_filters : (es : List (ℕ × ℕ)) → filter (λ e. not (eq_by_cmp nat_cmp v e.0)) es ≡ filter other es
  same_filters [] = refl
  same_filters (e ∷ es) =
      ap (λ b. cond (not b) (e ∷ filter (λ e. not (eq_by_cmp nat_cmp v e.0)) es) (filter (λ e. not (eq_by_cmp nat_cmp v e.0)) es))
      (same_test e.0) ∙ ap (λ fs. cond (other e) (e ∷ fs) fs) (same_filters es)

  module _ (m : Monomial) (ps : List (ℕ × ℕ)) (is : ps ≡ filter other m.list) where
    pub others_canonical : IsCanonical powers ps
    others_canonical = subst (IsCanonical powers) (sym is) (canonical_filter other m.list m.canonical)

    pub others_are : monomial_of ps ≡ finite.put powers v 0 m
    unfolding finite.put
    others_are =
        ap monomial_of (is ∙ sym (same_filters m.list))
        ∙ of_same powers _ _ (λ q. nothing (eq_by_cmp nat_cmp q v)
        (value_at nat_cmp exponents q (filter (λ e. not (eq_by_cmp nat_cmp v e.0)) m.list)))
      where
        nothing : (b : Bool) (n : ℕ) → n ≡ cond b 0 0 + n
        nothing true n = omega arith
        nothing false n = omega arith
