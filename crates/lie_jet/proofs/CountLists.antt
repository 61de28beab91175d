-- The lists of counts with a sum and a rank, the first count first.
use Rattle.std.specs.Prelude.{◌≡◌, ℕ, zero, suc, ◌+◌, ◌*◌, ◌<◌, ◌≤◌, ◌-◌, List, [], ◌∷◌, ◌++◌, length, slice_set}
use Rattle.std.proofs.Common.{ap, subst, ◌∙◌, arith, append-nil}
use Rattle.std.proofs.lemmas.List.{drop_all}
use Rattle.lie_math.specs.Counts.{order}
use Rattle.lie_geometry.specs.Coordinates.{sum_below, ways, rank}
use borrow.Rule.Slice.PartMut.{put_mid}

-- the first count written, and then the rest
pub front_then : (xs ys : List ℕ) (x : ℕ) → 0 < length xs → put_mid 1 (length (slice_set xs 0 x) - 1) (slice_set xs 0 x) ys ≡ x ∷ ys
front_then [] ys x h = absurd (omega arith)
front_then (z ∷ zs) ys x h = ap (λ (l : List ℕ). x ∷ (ys ++ l)) (drop_all (suc (length zs) - 1) zs (omega arith)) ∙ ap (λ (l : List ℕ). x ∷ l) (append-nil ys)

-- the place of the sum of the rest
pub rest_within : (l n r : ℕ) → 0 < l → r < ways l n → r < 1 * sum_below (ways (l - 1)) (suc n)
rest_within zero n r h k = absurd (omega arith)
rest_within (suc l) n r h k = subst (λ m. r < 1 * sum_below (ways m) (suc n)) (less l) (once _ k)
  where
    less : (l : ℕ) → l ≡ suc l - 1
    less l = omega arith

    once : (s : ℕ) → r < s → r < 1 * s
    once s g = omega arith

pub sum_put : (xs K : List ℕ) (n s : ℕ) → 0 < length xs → s ≤ n → order K ≡ s → order (put_mid 1 (length (slice_set xs 0 (n - s)) - 1) (slice_set xs 0 (n - s)) K) ≡ n
sum_put xs K n s h b e = ap order (front_then xs K (n - s) h) ∙ back (order K) e
  where
    back : (m : ℕ) → m ≡ s → (n - s) + m ≡ n
    back m e = omega arith

pub rank_put : (xs K : List ℕ) (x s r : ℕ) → 0 < length xs → length K ≡ length xs - 1 → order K ≡ s → sum_below (ways (length xs - 1)) s ≤ r → rank K ≡ r - sum_below (ways (length xs - 1)) s → rank (put_mid 1 (length (slice_set xs 0 x) - 1) (slice_set xs 0 x) K) ≡ r
rank_put xs K x s r h l e b g = ap rank (front_then xs K x h) ∙ back _ (ap (λ p. sum_below (ways p) (order K)) l ∙ ap (sum_below (ways (length xs - 1))) e)
  where
    back : (t : ℕ) → t ≡ sum_below (ways (length xs - 1)) s → t + rank K ≡ r
    back t f = omega arith
