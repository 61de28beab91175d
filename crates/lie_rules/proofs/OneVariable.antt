-- Derivatives by one variable alone: the first count that is not 0 is the order.
use Rattle.std.specs.Prelude.{◌≡◌, ◌⊎◌, ℕ, zero, suc, ◌+◌, ◌<◌, List, [], ◌∷◌, get_or}
use Rattle.std.proofs.Common.{refl, sym, ap, ap₂, subst, ◌∙◌, arith, inl, inr, add-one}
use Rattle.lie_math.specs.Counts.{order, before_counts, trimmed}
use Rattle.lie_math.proofs.Counts.{order_trimmed, before_suc}
use Rattle.lie_steps.specs.Integrate.{counts_of}
use Rattle.lie_rules.proofs.ZeroSteps.{no_counts}

-- the counts of the variables before v are 0
abbrev pub AreZeroBefore : ℕ → List ℕ → Type 0
AreZeroBefore zero J = Unit {0}
AreZeroBefore (suc v) [] = Unit {0}
AreZeroBefore (suc v) (c ∷ J) = (c ≡ 0) × AreZeroBefore v J

pub zero_more : (v : ℕ) (J : List ℕ) → AreZeroBefore v J → get_or J v 0 ≡ 0 → AreZeroBefore (suc v) J
zero_more zero [] h z = tt
zero_more zero (c ∷ J) h z = (z, tt)
zero_more (suc v) [] h z = tt
zero_more (suc v) (c ∷ J) h z = (h.0, zero_more v J h.1 z)

pub zero_next : (v : ℕ) (J : List ℕ) → AreZeroBefore v J → get_or J v 0 ≡ 0 → AreZeroBefore (v + 1) J
zero_next v J h z = subst (λ n. AreZeroBefore n J) (sym (add-one v)) (zero_more v J h z)

before_counted : (v k : ℕ) → before_counts 0 (counts_of v k) ≡ counts_of (suc v) k
before_counted zero k = refl
before_counted (suc v) k = refl

-- the count of v is the order
pub only_counts : (v : ℕ) (J : List ℕ) (c : ℕ) → AreZeroBefore v J → get_or J v 0 ≡ c → 0 < c → order J ≡ c → trimmed J ≡ counts_of v c
only_counts v [] c h g p e = absurd (let z : 0 ≡ c = e in omega arith)
only_counts zero (x ∷ J) zero h g p e = absurd (omega arith)
only_counts zero (x ∷ J) (suc c) h g p e =
    let x_is : x ≡ suc c = g in
    let rest : order J ≡ 0 = (let s : x + order J ≡ suc c = e in omega arith) in
    ap₂ before_counts x_is (no_counts J (order_trimmed J ∙ rest)) ∙ before_suc c []
only_counts (suc v) (x ∷ J) c h g p e =
    let z : x ≡ 0 = h.0 in
    ap₂ before_counts z (only_counts v J c h.1 g p (let s : x + order J ≡ c = e in omega arith)) ∙ before_counted v c

order_counted : (v k : ℕ) → order (counts_of v k) ≡ k
order_counted zero k = plain k
  where
    plain : (k : ℕ) → k + 0 ≡ k
    plain k = omega arith
order_counted (suc v) k = let h = order_counted v k in omega arith

count_counted : (w k v : ℕ) → (get_or (counts_of w k) v 0 ≡ 0) ⊎ (get_or (counts_of w k) v 0 ≡ k)
count_counted zero k zero = inr refl
count_counted zero k (suc v) = inl refl
count_counted (suc w) k zero = inl refl
count_counted (suc w) k (suc v) = count_counted w k v

count_before : (c : ℕ) (K : List ℕ) (v : ℕ) → get_or (before_counts c K) v 0 ≡ get_or (c ∷ K) v 0
count_before zero [] zero = refl
count_before zero [] (suc v) = refl
count_before (suc c) [] v = ap (λ J. get_or J v 0) (before_suc c [])
count_before c (k ∷ K) v = refl

count_trimmed : (J : List ℕ) (v : ℕ) → get_or (trimmed J) v 0 ≡ get_or J v 0
count_trimmed [] v = refl
count_trimmed (c ∷ J) zero = count_before c (trimmed J) zero
count_trimmed (c ∷ J) (suc v) = count_before c (trimmed J) (suc v) ∙ count_trimmed J v

-- the order of a derivative by one variable
pub order_of_one : (J : List ℕ) (w k : ℕ) → trimmed J ≡ counts_of w k → order J ≡ k
order_of_one J w k e = sym (order_trimmed J) ∙ ap order e ∙ order_counted w k

-- a count that is not 0 is the order, if the derivative is by one variable
pub other_counts : (J : List ℕ) (v c : ℕ) → get_or J v 0 ≡ c → 0 < c → ¬ (order J ≡ c) → (w k : ℕ) → 0 < k → ¬ (trimmed J ≡ counts_of w k)
other_counts J v c g p n w k q e = go (count_counted w k v)
  where
    count : get_or (counts_of w k) v 0 ≡ c
    count = ap (λ K. get_or K v 0) (sym e) ∙ count_trimmed J v ∙ g

    go : (get_or (counts_of w k) v 0 ≡ 0) ⊎ (get_or (counts_of w k) v 0 ≡ k) → ⊥
    go (inl z) = absurd (let y : 0 ≡ c = sym z ∙ count in omega arith)
    go (inr z) = n (order_of_one J w k e ∙ sym z ∙ count)
