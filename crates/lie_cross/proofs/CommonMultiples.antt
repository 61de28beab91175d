-- The least common multiple of two derivatives, by their counts.
use Rattle.std.specs.Prelude.{◌≡◌, ℕ, suc, ◌<◌, Bool, true, false, cond, eqb, max, List, [], ◌∷◌, length, get_or}
use Rattle.std.proofs.Common.{refl, sym, ap, ap₂, ◌∙◌, arith, eqb-true}
use Rattle.std.proofs.lemmas.Bool.{eqb-false}
use Rattle.lie_math.specs.Counts.{trimmed, before_counts}
use Rattle.lie_steps.specs.Cross.{joined}

-- ---- the counts of both joined
all_joined : (xs ys zs : List ℕ) → length xs ≡ length zs → length ys ≡ length zs
    → ((k : ℕ) → k < length zs → get_or zs k 0 ≡ max (get_or xs k 0) (get_or ys k 0)) → zs ≡ joined xs ys
all_joined [] [] [] p q h = refl
all_joined (x ∷ xs) (y ∷ ys) (z ∷ zs) p q h =
    ap₂ (λ a bs. a ∷ bs) (h 0 (omega arith)) (all_joined xs ys zs (omega arith) (omega arith) (λ k lt. h (suc k) (next k lt)))
  where
    next : (k : ℕ) → k < length zs → suc k < length (z ∷ zs)
    next k lt = omega arith
all_joined [] (y ∷ ys) zs p q h = absurd (omega arith)
all_joined (x ∷ xs) [] zs p q h = absurd (omega arith)
all_joined [] [] (z ∷ zs) p q h = absurd (omega arith)
all_joined (x ∷ xs) (y ∷ ys) [] p q h = absurd (omega arith)

joined_nothing : (xs : List ℕ) → joined xs [] ≡ xs
joined_nothing [] = refl
joined_nothing (x ∷ xs) = refl

max_right : (j k : ℕ) → j ≡ 0 → max j k ≡ k
max_right j k e = omega arith

max_left : (j k : ℕ) → k ≡ 0 → max j k ≡ j
max_left j k e = omega arith

no_zero : (n : ℕ) → ¬ (n ≡ 0) → eqb n 0 ≡ false
no_zero n h = go (eqb n 0) refl
  where
    go : (t : Bool) → eqb n 0 ≡ t → t ≡ false
    go true e = absurd (h (eqb-true n 0 e))
    go false e = refl

before_joined : (j k : ℕ) (A B : List ℕ) → before_counts (max j k) (joined A B) ≡ joined (before_counts j A) (before_counts k B)
before_joined j k (a ∷ A) (b ∷ B) = refl
before_joined j k [] (b ∷ B) = go (eqb j 0) refl
  where
    go : (t : Bool) → eqb j 0 ≡ t → max j k ∷ b ∷ B ≡ joined (cond t [] (j ∷ [])) (k ∷ b ∷ B)
    go true e = ap (λ n. n ∷ b ∷ B) (max_right j k (eqb-true j 0 e))
    go false e = refl
before_joined j k (a ∷ A) [] = go (eqb k 0) refl
  where
    go : (t : Bool) → eqb k 0 ≡ t → max j k ∷ a ∷ A ≡ joined (j ∷ a ∷ A) (cond t [] (k ∷ []))
    go true e = ap (λ n. n ∷ a ∷ A) (max_left j k (eqb-true k 0 e))
    go false e = refl
before_joined j k [] [] = go (eqb j 0) refl (eqb k 0) refl
  where
    go : (s : Bool) → eqb j 0 ≡ s → (t : Bool) → eqb k 0 ≡ t → cond (eqb (max j k) 0) [] (max j k ∷ [])
        ≡ joined (cond s [] (j ∷ [])) (cond t [] (k ∷ []))
    go true d true e =
        ap (λ n. cond (eqb n 0) [] (n ∷ []))
        (let x : j ≡ 0 = eqb-true j 0 d in let y : k ≡ 0 = eqb-true k 0 e in let z : max j k ≡ 0 = omega arith in z)
    go true d false e = ap (λ n. cond (eqb n 0) [] (n ∷ [])) (max_right j k (eqb-true j 0 d)) ∙ ap (λ t. cond t [] (k ∷ [])) e
    go false d true e = ap (λ n. cond (eqb n 0) [] (n ∷ [])) (max_left j k (eqb-true k 0 e)) ∙ ap (λ t. cond t [] (j ∷ [])) d
    go false d false e = ap (λ t. cond t [] (max j k ∷ [])) (no_zero (max j k) (λ z. eqb-false j 0 d (let y : j ≡ 0 = omega arith in y)))

trimmed_joined : (xs ys : List ℕ) → trimmed (joined xs ys) ≡ joined (trimmed xs) (trimmed ys)
trimmed_joined [] ys = refl
trimmed_joined (x ∷ xs) [] = sym (joined_nothing (trimmed (x ∷ xs)))
trimmed_joined (x ∷ xs) (y ∷ ys) = ap (before_counts (max x y)) (trimmed_joined xs ys) ∙ before_joined x y (trimmed xs) (trimmed ys)

pub common_counts : (xs ys zs : List ℕ) → length xs ≡ length zs → length ys ≡ length zs
    → ((k : ℕ) → k < length zs → get_or zs k 0 ≡ max (get_or xs k 0) (get_or ys k 0)) → trimmed zs ≡ joined (trimmed xs) (trimmed ys)
common_counts xs ys zs p q h = ap trimmed (all_joined xs ys zs p q h) ∙ trimmed_joined xs ys
