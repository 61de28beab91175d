-- The pivot of a row, and what makes a list of rows reduced.
use Rattle.std.specs.Prelude.{◌≡◌, ℕ, zero, suc, ◌<◌, ◌≤◌, true, false, cond, List, [], ◌∷◌, pos, ◌<ℤ◌}
use Rattle.std.proofs.Common.{refl, sym, ap, ◌∙◌, arith, true≢false}
use Rattle.std.specs.List.{AllByRecursion as Every}
use Rattle.lie_math.specs.Integer.{is_zero_int, int_nil}
use Rattle.lie_spans.specs.Spans.{EveryTwo}
use Rattle.lie_spans.specs.Reduced.{HasNoCommonDivisor, IsPivot, IsApart, IsReduced}
use Rattle.lie_spans.specs.Rows.{Row, entry}
use Rattle.lie_spans.specs.Elimination.{pivot}
use Rattle.lie_math.proofs.EveryElement.{every-weaken}
use Rattle.lie_spans.proofs.Lists.{every_two-weaken}
use Rattle.lie_spans.proofs.Reduced.{positive_not_zero}

pub before_pivot : (r : Row) (k : ℕ) → k < pivot r → entry r k ≡ pos 0
before_pivot [] k h = absurd (omega arith)
before_pivot (x ∷ xs) k h =
    elim (is_zero_int x) as (λ b. is_zero_int x ≡ b → k < cond b (suc (pivot xs)) 0 → entry (x ∷ xs) k ≡ pos 0) [
      | true ↦ λ e l. ending_at_or_not (before_pivot xs) k e l
      | false ↦ λ e l. absurd (omega arith)
    ] refl h
  where
    ending_at_or_not : ((j : ℕ) → j < pivot xs → entry xs j ≡ pos 0) → (j : ℕ) → is_zero_int x ≡ true → j < suc (pivot xs) → entry (x ∷ xs) j ≡ pos 0
    ending_at_or_not rest zero e l = int_nil x e
    ending_at_or_not rest (suc j) e l = rest j (omega arith)

pub entry_at_pivot : (r : Row) (k : ℕ) → ¬ (entry r k ≡ pos 0) → (pivot r ≤ k) × (¬ (entry r (pivot r) ≡ pos 0))
entry_at_pivot [] k h = absurd (h refl)
entry_at_pivot (x ∷ xs) k h =
    elim (is_zero_int x) as (λ b. is_zero_int x ≡ b → (cond b (suc (pivot xs)) 0 ≤ k) × (¬ (entry (x ∷ xs) (cond b (suc (pivot xs)) 0) ≡ pos 0))) [
      | true ↦ λ e. ending_at_or_not (entry_at_pivot xs) k e h
      | false ↦ λ e. (omega arith, λ z. true≢false (ap is_zero_int (sym z) ∙ e))
    ] refl
  where
    ending_at_or_not : ((j : ℕ) → ¬ (entry xs j ≡ pos 0) → (pivot xs ≤ j) × (¬ (entry xs (pivot xs) ≡ pos 0))) → (j : ℕ) → is_zero_int x ≡ true → ¬ (entry (x ∷ xs) j ≡ pos 0) → (suc (pivot xs) ≤ j) × (¬ (entry xs (pivot xs) ≡ pos 0))
    ending_at_or_not rest zero e n = absurd (n (int_nil x e))
    ending_at_or_not rest (suc j) e n = let p = rest j n in (omega arith, p.1)

pub pivot_is : (r : Row) (p : ℕ) → ¬ (entry r p ≡ pos 0) → ((j : ℕ) → j < p → entry r j ≡ pos 0) → pivot r ≡ p
pivot_is r p h before =
    let a = entry_at_pivot r p h in
    decide (pivot r) p a.0 (λ l. a.1 (before (pivot r) l))
  where
    decide : (m n : ℕ) → m ≤ n → ¬ (m < n) → m ≡ n
    decide m n l k = omega arith

-- the pivots rise, and each row is 0 at the other's
pub record Apart (r s : Row) : Type 0 where
  pub rise : pivot r < pivot s
  pub left : entry r (pivot s) ≡ pos 0
  pub right : entry s (pivot r) ≡ pos 0

pub pivot_of : (r : Row) (k : ℕ) → IsPivot entry ◌<◌ r k → pivot r ≡ k
pivot_of r k p = pivot_is r k (positive_not_zero (entry r k) p.positive) p.first

pub reduced_rows : (rs : List Row) → Every (HasNoCommonDivisor entry) rs → Every (λ r. pos 0 <ℤ entry r (pivot r)) rs → EveryTwo Apart rs → IsReduced entry ◌<◌ rs
reduced_rows rs primitive positive apart = record {
  primitive = primitive;
  pivots = every-weaken (λ r. pos 0 <ℤ entry r (pivot r)) (λ r. (k : ℕ) × IsPivot entry ◌<◌ r k) (λ r p. (pivot r, record { positive = p; first = before_pivot r })) rs positive;
  apart = every_two-weaken (λ r. pos 0 <ℤ entry r (pivot r)) Apart (λ r s. (j k : ℕ) → IsPivot entry ◌<◌ r j → IsPivot entry ◌<◌ s k → IsApart entry ◌<◌ r s j k)
      (λ r s p q a j k pj pk.
      let ej : pivot r ≡ j = pivot_of r j pj in
      let ek : pivot s ≡ k = pivot_of s k pk in
      record { rise = let l = a.rise in omega arith; left = ap (entry r) (sym ek) ∙ a.left; right = ap (entry s) (sym ej) ∙ a.right }) rs positive apart;
}
