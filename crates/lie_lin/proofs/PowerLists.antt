-- Lists of powers whose exponents are changed.
use Rattle.std.specs.Prelude.{◌≡◌, ℕ, ◌+◌, ◌<◌, ◌≤◌, Bool, true, false, cond, not, eqb, T, List, [], ◌∷◌, ◌++◌, length, map, take, get_or}
use Rattle.std.proofs.Common.{refl, sym, ap, subst, ◌∙◌, arith, add-one, append_assoc, append-nil, is_lt, eqb→eq}
use Rattle.std.proofs.Math.Seq.{take-suc}
use Rattle.std.specs.Ordering.{nat_cmp, eq_by_cmp}
use Rattle.lie_math.specs.SortedSum.{below_all, value_at}
use Rattle.lie_math.specs.Canonical.{both, first, second}
use Rattle.lie_math.specs.Natural.{exponents}
use Rattle.lie_math.specs.FiniteSumLaws.{of_same}
use Rattle.lie_math.specs.Monomial.{Monomial, powers, monomial_of}
use Rattle.lie_math.specs.FiniteSum.{IsCanonical}
use Rattle.lie_math.proofs.CanonicalLists.{canonical_below, canonical_tail, canonical_cons}
use Rattle.lie_systems.specs.Normalised.{each_exponent}
use Rattle.lie_lin.specs.Powers.{power_unless_zero}
use Rattle.lie_ring.proofs.Fronts.{all_taken}

-- each exponent changed, without those that become 0
abbrev pub changed : (ℕ → ℕ → ℕ) → List (ℕ × ℕ) → List (ℕ × ℕ)
changed f [] = []
changed f (p ∷ ps) = power_unless_zero p.0 (f p.0 p.1) ++ changed f ps

module _ (f : ℕ → ℕ → ℕ) where
  changed-append : (ps qs : List (ℕ × ℕ)) → changed f (ps ++ qs) ≡ changed f ps ++ changed f qs
  changed-append [] qs = refl
  changed-append (p ∷ ps) qs = ap (λ rs. power_unless_zero p.0 (f p.0 p.1) ++ rs) (changed-append ps qs) ∙ sym (append_assoc (power_unless_zero p.0 (f p.0 p.1)) (changed f ps) (changed f qs))

  pub changed_more : (ps : List (ℕ × ℕ)) (i : ℕ) (d : ℕ × ℕ) → i < length ps → changed f (take (i + 1) ps) ≡ changed f (take i ps) ++ power_unless_zero (get_or ps i d).0 (f (get_or ps i d).0 (get_or ps i d).1)
  changed_more ps i d lt =
      ap (λ n. changed f (take n ps)) (add-one i) ∙ ap (changed f) (take-suc ps i d lt) ∙ changed-append (take i ps) (get_or ps i d ∷ [])
      ∙ ap (λ qs. changed f (take i ps) ++ qs) (append-nil (power_unless_zero (get_or ps i d).0 (f (get_or ps i d).0 (get_or ps i d).1)))

  -- ---- the variables still rise
  below_changed : (v : ℕ) (ps : List (ℕ × ℕ)) → T (below_all nat_cmp exponents v ps) → T (below_all nat_cmp exponents v (changed f ps))
  below_changed v [] h = tt
  below_changed v (p ∷ ps) h = go (eqb (f p.0 p.1) 0) (below_changed v ps (second (is_lt (nat_cmp v p.0)) (below_all nat_cmp exponents v ps) h))
    where
      go : (b : Bool) → T (below_all nat_cmp exponents v (changed f ps)) → T (below_all nat_cmp exponents v (cond b [] ((p.0, f p.0 p.1) ∷ []) ++ changed f ps))
      go true r = r
      go false r = both (is_lt (nat_cmp v p.0)) _ (first (is_lt (nat_cmp v p.0)) (below_all nat_cmp exponents v ps) h) r

  canonical_changed : (ps : List (ℕ × ℕ)) → IsCanonical powers ps → IsCanonical powers (changed f ps)
  canonical_changed [] h = tt
  canonical_changed (p ∷ ps) h = go (eqb (f p.0 p.1) 0) refl (canonical_changed ps (canonical_tail powers p ps h))
    where
      go : (b : Bool) → eqb (f p.0 p.1) 0 ≡ b → IsCanonical powers (changed f ps) → IsCanonical powers (cond b [] ((p.0, f p.0 p.1) ∷ []) ++ changed f ps)
      go true e r = r
      go false e r = canonical_cons powers (p.0, f p.0 p.1) (changed f ps) (subst (λ b. T (not b)) (sym e) tt) (below_changed p.0 ps (canonical_below powers p ps h)) r

  -- ---- the product is that of all
  values_changed : (v : ℕ) (ps : List (ℕ × ℕ)) → value_at nat_cmp exponents v (changed f ps) ≡ value_at nat_cmp exponents v (map (λ p. (p.0, f p.0 p.1)) ps)
  values_changed v [] = refl
  values_changed v (p ∷ ps) = go (eqb (f p.0 p.1) 0) refl (values_changed v ps)
    where
      nothing : (b : Bool) (n m : ℕ) → n ≡ 0 → m ≡ cond b n 0 + m
      nothing true n m e = omega arith
      nothing false n m e = omega arith

      go : (b : Bool) → eqb (f p.0 p.1) 0 ≡ b → value_at nat_cmp exponents v (changed f ps) ≡ value_at nat_cmp exponents v (map (λ p. (p.0, f p.0 p.1)) ps)
          → value_at nat_cmp exponents v (cond b [] ((p.0, f p.0 p.1) ∷ []) ++ changed f ps) ≡ value_at nat_cmp exponents v ((p.0, f p.0 p.1) ∷ map (λ p. (p.0, f p.0 p.1)) ps)
      go true e r = r ∙ nothing (eq_by_cmp nat_cmp v p.0) (f p.0 p.1) (value_at nat_cmp exponents v (map (λ p. (p.0, f p.0 p.1)) ps)) (eqb→eq (f p.0 p.1) 0 (subst T (sym e) tt))
      go false e r = ap (λ n. cond (eq_by_cmp nat_cmp v p.0) (f p.0 p.1) 0 + n) r

  product_changed : (m : Monomial) (ps : List (ℕ × ℕ)) → ps ≡ m.list → monomial_of (changed f ps) ≡ each_exponent f m
  unfolding each_exponent
  product_changed m ps e = of_same powers (changed f ps) (map (λ p. (p.0, f p.0 p.1)) ps) (λ v. values_changed v ps) ∙ ap (λ qs. monomial_of (map (λ p. (p.0, f p.0 p.1)) qs)) e

  pub made : (m : Monomial) (ps out : List (ℕ × ℕ)) (i : ℕ) → ps ≡ m.list → length ps ≤ i → out ≡ changed f (take i ps) → IsCanonical powers out × (monomial_of out ≡ each_exponent f m)
  made m ps out i e le is =
      let all : out ≡ changed f ps = is ∙ ap (changed f) (all_taken ps i le) in (
        subst (IsCanonical powers) (sym all) (canonical_changed ps (subst (IsCanonical powers) (sym e) m.canonical)),
        ap monomial_of all ∙ product_changed m ps e,
      )
