-- Sums of products, and rows that take others to 0: they take to 0 all that these span.
use Rattle.std.specs.Prelude.{◌≡◌, ℕ, zero, suc, ◌<◌, List, [], ◌∷◌, ℤ, pos, ◌+ℤ◌, ◌*ℤ◌}
use Rattle.std.proofs.Common.{refl, sym, ap, ap₂, ◌∙◌, arith, ⊎_elim}
use Rattle.std.specs.List.{AllByRecursion as Every}
use Rattle.std.proofs.lemmas.Bool.{cases_lt}
use Rattle.lie_math.specs.Integer.{integer_ring}
use Rattle.lie_math.proofs.Integer.{not_zero, no_zero_divisors_ℤ}
use Rattle.lie_math.proofs.RingSolver.{v, c0, c1, ◌⊕◌, ◌⊗◌, solve, listed}
use Rattle.lie_spans.specs.Spans.{combination, IsSpanned}
use Rattle.lie_spans.specs.Rows.{Row, entry}
use Rattle.lie_spans.specs.Kernel.{dot, IsKernel}
use Rattle.lie_math.proofs.EveryElement.{every-weaken}

pub dot_same : (n : ℕ) (u w z : ℕ → ℤ) → ((j : ℕ) → w j ≡ z j) → dot n u w ≡ dot n u z
dot_same zero u w z e = refl
dot_same (suc n) u w z e = ap₂ (λ x y. x +ℤ u n *ℤ y) (dot_same n u w z e) (e n)

pub dot_below : (n : ℕ) (u w z : ℕ → ℤ) → ((j : ℕ) → j < n → w j ≡ z j) → dot n u w ≡ dot n u z
dot_below zero u w z e = refl
dot_below (suc n) u w z e = ap₂ (λ x y. x +ℤ u n *ℤ y) (dot_below n u w z (λ j l. e j (omega arith))) (e n (omega arith))

pub dot_comm : (n : ℕ) (u w : ℕ → ℤ) → dot n u w ≡ dot n w u
dot_comm zero u w = refl
dot_comm (suc n) u w = ap (λ x. x +ℤ u n *ℤ w n) (dot_comm n u w) ∙ solve integer_ring (listed (pos 0) (dot n w u ∷ u n ∷ w n ∷ [])) (v 0 ⊕ v 1 ⊗ v 2) (v 0 ⊕ v 2 ⊗ v 1) refl

pub dot-plus : (n : ℕ) (a b : ℤ) (u w z : ℕ → ℤ) → dot n u (λ j. a *ℤ w j +ℤ b *ℤ z j) ≡ a *ℤ dot n u w +ℤ b *ℤ dot n u z
dot-plus zero a b u w z = solve integer_ring (listed (pos 0) (a ∷ b ∷ [])) c0 (v 0 ⊗ c0 ⊕ v 1 ⊗ c0) refl
dot-plus (suc n) a b u w z =
    ap (λ x. x +ℤ u n *ℤ (a *ℤ w n +ℤ b *ℤ z n)) (dot-plus n a b u w z)
    ∙ solve integer_ring (listed (pos 0) (a ∷ b ∷ dot n u w ∷ dot n u z ∷ u n ∷ w n ∷ z n ∷ [])) ((v 0 ⊗ v 2 ⊕ v 1 ⊗ v 3) ⊕ v 4 ⊗ (v 0 ⊗ v 5 ⊕ v 1 ⊗ v 6)) (v 0 ⊗ (v 2 ⊕ v 4 ⊗ v 5) ⊕ v 1 ⊗ (v 3 ⊕ v 4 ⊗ v 6)) refl

pub dot-zero : (n : ℕ) (u w : ℕ → ℤ) → ((j : ℕ) → j < n → u j *ℤ w j ≡ pos 0) → dot n u w ≡ pos 0
dot-zero zero u w h = refl
dot-zero (suc n) u w h = ap₂ ◌+ℤ◌ (dot-zero n u w (λ j l. h j (omega arith))) (h n (omega arith))

-- where one column counts
pub dot_one : (n : ℕ) (u w : ℕ → ℤ) (p : ℕ) → p < n → ((j : ℕ) → j < n → ¬ (j ≡ p) → u j *ℤ w j ≡ pos 0) → dot n u w ≡ u p *ℤ w p
dot_one zero u w p l h = absurd (omega arith)
dot_one (suc n) u w p l h = ⊎_elim
    (λ m. ap₂ ◌+ℤ◌ (dot_one n u w p m (λ j k q. h j (omega arith) q)) (h n (omega arith) (omega arith)) ∙ solve integer_ring (listed (pos 0) (u p ∷ w p ∷ [])) (v 0 ⊗ v 1 ⊕ c0) (v 0 ⊗ v 1) refl)
    (λ m. let e : n ≡ p = omega arith in
    ap (λ x. x +ℤ u n *ℤ w n) (dot-zero n u w (λ j k. h j (omega arith) (omega arith)))
    ∙ solve integer_ring (listed (pos 0) (u n ∷ w n ∷ [])) (c0 ⊕ v 0 ⊗ v 1) (v 0 ⊗ v 1) refl ∙ ap (λ i. u i *ℤ w i) e)
    (cases_lt p n)

-- where two columns count
pub dot_two : (n : ℕ) (u w : ℕ → ℤ) (f p : ℕ) → f < p → p < n → ((j : ℕ) → j < n → ¬ (j ≡ f) → ¬ (j ≡ p) → u j *ℤ w j ≡ pos 0) → dot n u w ≡ u f *ℤ w f +ℤ u p *ℤ w p
dot_two zero u w f p k l h = absurd (omega arith)
dot_two (suc n) u w f p k l h = ⊎_elim
    (λ m. ap₂ ◌+ℤ◌ (dot_two n u w f p k m (λ j i q s. h j (omega arith) q s)) (h n (omega arith) (omega arith) (omega arith)) ∙ solve integer_ring (listed (pos 0) ((u f *ℤ w f +ℤ u p *ℤ w p) ∷ [])) (v 0 ⊕ c0) (v 0) refl)
    (λ m. let e : n ≡ p = omega arith in
    ap (λ x. x +ℤ u n *ℤ w n) (dot_one n u w f (omega arith) (λ j i q. h j (omega arith) q (omega arith))) ∙ ap (λ i. u f *ℤ w f +ℤ u i *ℤ w i) e)
    (cases_lt p n)

-- ---- the kernel and the span

dot_combination : (n : ℕ) (rs : List Row) (w : ℕ → ℤ) → IsKernel n rs w → (c : ℕ → ℤ) → dot n w (combination entry c rs) ≡ pos 0
dot_combination n [] w h c = dot-zero n w (combination entry c []) (λ j l. solve integer_ring (listed (pos 0) (w j ∷ [])) (v 0 ⊗ c0) c0 refl)
dot_combination n (r ∷ rs) w h c =
    dot_same n w (combination entry c (r ∷ rs)) (λ j. c 0 *ℤ entry r j +ℤ pos 1 *ℤ combination entry (λ i. c (suc i)) rs j) (λ j. solve integer_ring (listed (pos 0) (c 0 ∷ entry r j ∷ combination entry (λ i. c (suc i)) rs j ∷ [])) (v 0 ⊗ v 1 ⊕ v 2) (v 0 ⊗ v 1 ⊕ c1 ⊗ v 2) refl)
    ∙ dot-plus n (c 0) (pos 1) w (entry r) (combination entry (λ i. c (suc i)) rs)
    ∙ ap₂ (λ x y. c 0 *ℤ x +ℤ pos 1 *ℤ y) (dot_comm n w (entry r) ∙ h.0) (dot_combination n rs w h.1 (λ i. c (suc i)))
    ∙ solve integer_ring (listed (pos 0) (c 0 ∷ [])) (v 0 ⊗ c0 ⊕ c1 ⊗ c0) c0 refl

pub dot_spanned : (n : ℕ) (rs : List Row) (w u : ℕ → ℤ) → IsKernel n rs w → IsSpanned entry rs u → dot n u w ≡ pos 0
dot_spanned n rs w u h s =
    no_zero_divisors_ℤ (pos s.multiple) (dot n u w) (not_zero s.multiple s.positive)
    (ap (λ x. pos s.multiple *ℤ x) (dot_comm n u w)
    ∙ solve integer_ring (listed (pos 0) (pos s.multiple ∷ dot n w u ∷ [])) (v 0 ⊗ v 1) (v 0 ⊗ v 1 ⊕ c0 ⊗ v 1) refl
    ∙ sym (dot-plus n (pos s.multiple) (pos 0) w u u)
    ∙ dot_same n w (λ j. pos s.multiple *ℤ u j +ℤ pos 0 *ℤ u j) (combination entry s.numbers rs) (λ j. solve integer_ring (listed (pos 0) (pos s.multiple ∷ u j ∷ [])) (v 0 ⊗ v 1 ⊕ c0 ⊗ v 1) (v 0 ⊗ v 1) refl ∙ s.same j)
    ∙ dot_combination n rs w h s.numbers)

-- rows that are spanned take to 0 what the rows that span them do
pub kernel_through : (n : ℕ) (rs ss : List Row) (w : ℕ → ℤ) → Every (λ r. IsSpanned entry rs (entry r)) ss → IsKernel n rs w → IsKernel n ss w
kernel_through n rs ss w h k = every-weaken (λ r. IsSpanned entry rs (entry r)) (λ r. dot n (entry r) w ≡ pos 0) (λ r s. dot_spanned n rs w (entry r) k s) ss h
