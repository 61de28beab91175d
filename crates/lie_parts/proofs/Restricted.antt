-- The factors of a monomial with variables of a set: some of its pairs.
use Rattle.std.specs.Prelude.{◌≡◌, ℕ, ◌+◌, ◌<◌, ◌≤◌, Bool, true, false, cond, T, List, [], ◌∷◌, ◌++◌, length, take, get_or}
use Rattle.std.proofs.Common.{refl, sym, ap, subst, ◌∙◌, arith, add-one, is_lt}
use Rattle.std.proofs.Math.Seq.{take-suc}
use Rattle.std.specs.Ordering.{nat_cmp, eq_by_cmp}
use Rattle.lie_math.specs.SortedSum.{below_all, value_at}
use Rattle.lie_math.specs.Canonical.{both, first, second}
use Rattle.lie_math.specs.Natural.{exponents}
use Rattle.lie_math.specs.FiniteSumLaws.{ext, value-of}
use Rattle.lie_math.specs.Monomial.{Monomial, powers, monomial_of}
use Rattle.lie_math.specs.FiniteSum.{IsCanonical}
use Rattle.lie_math.proofs.CanonicalLists.{canonical_value, canonical_below, canonical_tail, canonical_cons}
use Rattle.lie_math.proofs.FiniteSum.{key}
use Rattle.lie_geometry.specs.DeterminingEquations.{restrict}
use Rattle.lie_geometry.proofs.Parts.{exponent-restrict}
use Rattle.lie_ring.proofs.Fronts.{all_taken}

module _ (A : ℕ → Bool) where
  -- the pairs whose variable is in the set
  abbrev pub pairs_in : List (ℕ × ℕ) → List (ℕ × ℕ)
  pairs_in [] = []
  pairs_in (p ∷ ps) = cond (A p.0) (p ∷ []) [] ++ pairs_in ps

  pairs_in-append : (ps : List (ℕ × ℕ)) (p : ℕ × ℕ) → pairs_in (ps ++ p ∷ []) ≡ pairs_in ps ++ cond (A p.0) (p ∷ []) []
  pairs_in-append [] p = elim (A p.0) as (λ b. cond b (p ∷ []) [] ++ [] ≡ cond b (p ∷ []) []) [ true ↦ refl | false ↦ refl ]
  pairs_in-append (q ∷ ps) p = elim (A q.0) as (λ b. cond b (q ∷ []) [] ++ pairs_in (ps ++ p ∷ []) ≡ (cond b (q ∷ []) [] ++ pairs_in ps) ++ cond (A p.0) (p ∷ []) []) [
    | true ↦ ap (λ rs. q ∷ rs) (pairs_in-append ps p)
    | false ↦ pairs_in-append ps p
  ]

  pub pairs_more : (ps : List (ℕ × ℕ)) (i : ℕ) (d : ℕ × ℕ) → i < length ps → pairs_in (take (i + 1) ps) ≡ pairs_in (take i ps) ++ cond (A (get_or ps i d).0) (get_or ps i d ∷ []) []
  pairs_more ps i d lt = ap (λ n. pairs_in (take n ps)) (add-one i) ∙ ap pairs_in (take-suc ps i d lt) ∙ pairs_in-append (take i ps) (get_or ps i d)

  below_in : (v : ℕ) (ps : List (ℕ × ℕ)) → T (below_all nat_cmp exponents v ps) → T (below_all nat_cmp exponents v (pairs_in ps))
  below_in v [] h = tt
  below_in v (p ∷ ps) h = go (A p.0) (below_in v ps (second (is_lt (nat_cmp v p.0)) (below_all nat_cmp exponents v ps) h))
    where
      go : (b : Bool) → T (below_all nat_cmp exponents v (pairs_in ps)) → T (below_all nat_cmp exponents v (cond b (p ∷ []) [] ++ pairs_in ps))
      go true r = both (is_lt (nat_cmp v p.0)) (below_all nat_cmp exponents v (pairs_in ps)) (first (is_lt (nat_cmp v p.0)) (below_all nat_cmp exponents v ps) h) r
      go false r = r

  canonical_in : (ps : List (ℕ × ℕ)) → IsCanonical powers ps → IsCanonical powers (pairs_in ps)
  canonical_in [] h = tt
  canonical_in (p ∷ ps) h = go (A p.0) (canonical_in ps (canonical_tail powers p ps h))
    where
      go : (b : Bool) → IsCanonical powers (pairs_in ps) → IsCanonical powers (cond b (p ∷ []) [] ++ pairs_in ps)
      go true r = canonical_cons powers p (pairs_in ps) (canonical_value powers p ps h) (below_in p.0 ps (canonical_below powers p ps h)) r
      go false r = r

  value_in_pairs : (v : ℕ) (ps : List (ℕ × ℕ)) → value_at nat_cmp exponents v (pairs_in ps) ≡ cond (A v) (value_at nat_cmp exponents v ps) 0
  value_in_pairs v [] = elim (A v) as (λ b. ◌≡◌ {A = ℕ} 0 (cond b 0 0)) [ true ↦ refl | false ↦ refl ]
  value_in_pairs v (p ∷ ps) = go (A p.0) refl (eq_by_cmp nat_cmp v p.0) refl (value_in_pairs v ps)
    where
      rest : ℕ
      rest = value_at nat_cmp exponents v ps

      same : (b : Bool) (n m : ℕ) → cond b (n + m) 0 ≡ cond b n 0 + cond b m 0
      same true n m = refl
      same false n m = refl

      nothing : (n : ℕ) → 0 + n ≡ n
      nothing n = omega arith

      go : (b : Bool) → A p.0 ≡ b → (t : Bool) → eq_by_cmp nat_cmp v p.0 ≡ t → value_at nat_cmp exponents v (pairs_in ps) ≡ cond (A v) (value_at nat_cmp exponents v ps) 0
          → value_at nat_cmp exponents v (cond b (p ∷ []) [] ++ pairs_in ps) ≡ cond (A v) (cond t p.1 0 + value_at nat_cmp exponents v ps) 0
      go true e true f h =
          let a : A v ≡ true = ap A (key powers v p.0 f) ∙ e in
          ap (λ t. cond t p.1 0 + value_at nat_cmp exponents v (pairs_in ps)) f
          ∙ ap (λ n. p.1 + n) (h ∙ ap (λ b. cond b (value_at nat_cmp exponents v ps) 0) a) ∙ ap (λ b. cond b (p.1 + value_at nat_cmp exponents v ps) 0) (sym a)
      go true e false f h =
          ap (λ t. cond t p.1 0 + value_at nat_cmp exponents v (pairs_in ps)) f ∙ nothing (value_at nat_cmp exponents v (pairs_in ps)) ∙ h
          ∙ ap (λ n. cond (A v) n 0) (sym (nothing (value_at nat_cmp exponents v ps)))
      go false e true f h =
          let a : A v ≡ false = ap A (key powers v p.0 f) ∙ e in
          h ∙ ap (λ b. cond b (value_at nat_cmp exponents v ps) 0) a ∙ ap (λ b. cond b (p.1 + value_at nat_cmp exponents v ps) 0) (sym a)
      go false e false f h = h ∙ ap (λ n. cond (A v) n 0) (sym (nothing (value_at nat_cmp exponents v ps)))

  restricted : (m : Monomial) → monomial_of (pairs_in m.list) ≡ restrict A m
  restricted m = ext powers (monomial_of (pairs_in m.list)) (restrict A m) (λ v. value-of powers (pairs_in m.list) v ∙ value_in_pairs v m.list ∙ sym (exponent-restrict A m v))

  pub made : (m : Monomial) (ps out : List (ℕ × ℕ)) (i : ℕ) → ps ≡ m.list → length ps ≤ i → out ≡ pairs_in (take i ps) → IsCanonical powers out × (monomial_of out ≡ restrict A m)
  made m ps out i e le is =
      let all : out ≡ pairs_in m.list = is ∙ ap pairs_in (all_taken ps i le ∙ e) in (
        subst (IsCanonical powers) (sym all) (canonical_in m.list m.canonical),
        ap monomial_of all ∙ restricted m,
      )
