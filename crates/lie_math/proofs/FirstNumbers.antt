-- The first number of a kind is one, and where there is none, no number is of the kind.
use Rattle.std.specs.Prelude.{◌≡◌, ℕ, zero, suc, ◌+◌, ◌<◌, ◌⊎◌, Bool, true, false, eqb, ltb}
use Rattle.std.proofs.Common.{refl, subst, arith, inl, inr, true≢false, eq-eqb, sym, ◌∙◌, ltb-true, ltb-false}
use Rattle.lie_math.proofs.Tests.{same_number}

pub first_unique : (P : ℕ → Type 0) (v w : ℕ) → P v → P w → ((u : ℕ) → u < v → ¬ (P u)) → ((u : ℕ) → u < w → ¬ (P u)) → v ≡ w
first_unique P v w p q f g = go (ltb v w) refl (ltb w v) refl
  where
    go : (s : Bool) → ltb v w ≡ s → (t : Bool) → ltb w v ≡ t → v ≡ w
    go true e t k = absurd (g v (ltb-true v w e) p)
    go false e true k = absurd (f w (ltb-true w v k) q)
    go false e false k = omega (arith, ltb-false v w e, ltb-false w v k)

-- where no number is the first of a kind, none is of that kind
none_below : (P : ℕ → Type 0) → ((v : ℕ) → P v → ((w : ℕ) → w < v → ¬ (P w)) → ⊥) → (n v : ℕ) → v < n → ¬ (P v)
none_below P h zero v lt p = absurd (omega arith)
none_below P h (suc n) v lt p = go (eqb v n) refl (none_below P h n)
  where
    go : (t : Bool) → eqb v n ≡ t → ((w : ℕ) → w < n → ¬ (P w)) → ⊥
    go true e r = h v p (λ w less. r w (let s : v ≡ n = same_number v n e in omega arith))
    go false e r = r v (let n' : ¬ (v ≡ n) = λ s. true≢false (sym (eq-eqb v n s) ∙ e) in omega arith) p

pub none_first : (P : ℕ → Type 0) → ((v : ℕ) → P v → ((w : ℕ) → w < v → ¬ (P w)) → ⊥) → (v : ℕ) → ¬ (P v)
none_first P h v = none_below P h (suc v) v (omega arith)

-- ---- the least number of a kind that can be told
least_from : (P : ℕ → Type 0) → ((m : ℕ) → P m ⊎ ¬ (P m)) → (steps m : ℕ) → P (m + steps) → ((w : ℕ) → w < m → ¬ (P w)) → (L : ℕ) × P L × ((w : ℕ) → w < L → ¬ (P w))
least_from P tell zero m p f = (m, subst P (plain m) p, f)
  where
    plain : (m : ℕ) → m + 0 ≡ m
    plain m = omega arith
least_from P tell (suc steps) m p f = go (tell m) (least_from P tell steps (suc m) (subst P (moved m steps) p))
  where
    moved : (m s : ℕ) → m + suc s ≡ suc m + s
    moved m s = omega arith

    go : P m ⊎ ¬ (P m) → (((w : ℕ) → w < suc m → ¬ (P w)) → (L : ℕ) × P L × ((w : ℕ) → w < L → ¬ (P w))) → (L : ℕ) × P L × ((w : ℕ) → w < L → ¬ (P w))
    go (inl q) r = (m, q, f)
    go (inr n) r = r (λ w lt q. at w lt q (eqb w m) refl)
      where
        at : (w : ℕ) → w < suc m → P w → (t : Bool) → eqb w m ≡ t → ⊥
        at w lt q true e = n (subst P (same_number w m e) q)
        at w lt q false e = f w (let d : ¬ (w ≡ m) = λ s. true≢false (sym (eq-eqb w m s) ∙ e) in omega arith) q

pub least_number : (P : ℕ → Type 0) → ((m : ℕ) → P m ⊎ ¬ (P m)) → (m : ℕ) → P m → (L : ℕ) × P L × ((w : ℕ) → w < L → ¬ (P w))
least_number P tell m p = least_from P tell m 0 (subst P (plain m) p) (λ w lt. absurd (omega arith))
  where
    plain : (m : ℕ) → m ≡ 0 + m
    plain m = omega arith
