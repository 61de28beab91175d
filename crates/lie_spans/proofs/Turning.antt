-- Rows turned so that they are positive at their pivots.
use Rattle.std.specs.Prelude.{◌≡◌, ℕ, zero, suc, ◌*◌, ◌<◌, true, false, cond, List, [], ◌∷◌, ℤ, pos, negsuc, ◌+ℤ◌, ◌*ℤ◌, neg_ℤ, ◌<ℤ◌, unsigned_abs, length, int_lt}
use Rattle.std.proofs.Common.{refl, sym, ap, subst, ◌∙◌, arith}
use Rattle.std.specs.List.{AllByRecursion as Every}
use Rattle.std.proofs.lemmas.Int.{unsigned_abs-mul}
use borrow.Author.Differences.{ints}
use Prim.Native.Nat.{◌∣◌}
use Rattle.lie_math.specs.Integer.{integer_ring}
use Rattle.lie_math.proofs.Integer.{no_zero_divisors_ℤ}
use Rattle.lie_math.proofs.RingSolver.{v, c0, c1, ◌⊕◌, ◌⊗◌, solve, listed}
use Rattle.lie_spans.specs.Spans.{EveryTwo, IsSpanned}
use Rattle.lie_spans.specs.Reduced.{HasNoCommonDivisor, IsReduced}
use Rattle.lie_spans.specs.Rows.{Row, entry}
use Rattle.lie_spans.specs.Elimination.{pivot, negated_row, turned_row, turned_rows}
use Rattle.lie_math.proofs.EveryElement.{every_both}
use Rattle.lie_spans.proofs.Spans.{spanned_same, spanned-plus, spanned_over}
use Rattle.lie_spans.proofs.Pivots.{Apart, before_pivot, pivot_is, reduced_rows}
use Rattle.lie_spans.proofs.Columns.{Ended}

entry-negated : (r : Row) (k : ℕ) → entry (negated_row r) k ≡ neg_ℤ (entry r k)
entry-negated [] k = refl
entry-negated (x ∷ xs) zero = refl
entry-negated (x ∷ xs) (suc k) = entry-negated xs k

length-negated : (r : Row) → length (negated_row r) ≡ length r
length-negated [] = refl
length-negated (x ∷ xs) = ap suc (length-negated xs)

-- t is r or its negative, positive at the pivot
pub record IsTurned (r t : Row) : Type 0 where
  pub sign : ℤ
  pub one : unsigned_abs sign ≡ 1
  pub same : (j : ℕ) → entry t j ≡ sign *ℤ entry r j
  pub positive : ¬ (entry r (pivot r) ≡ pos 0) → pos 0 <ℤ entry t (pivot r)
  pub length : length t ≡ length r

turned_is : (r : Row) → IsTurned r (turned_row r)
turned_is r =
    elim (int_lt (entry r (pivot r)) (pos 0)) as (λ b. int_lt (entry r (pivot r)) (pos 0) ≡ b → IsTurned r (cond b (negated_row r) r)) [
      | true ↦ λ e. record {
        sign = negsuc 0;
        one = refl;
        same = λ j. entry-negated r j ∙ minus (entry r j);
        positive = λ h. subst (λ x. pos 0 <ℤ x) (sym (entry-negated r (pivot r))) (below (entry r (pivot r)) e);
        length = length-negated r;
      }
      | false ↦ λ e. record {
        sign = pos 1;
        one = refl;
        same = λ j. solve integer_ring (listed (pos 0) (entry r j ∷ [])) (v 0) (c1 ⊗ v 0) refl;
        positive = above (entry r (pivot r)) e;
        length = refl;
      }
    ] refl
  where
    minus : (x : ℤ) → neg_ℤ x ≡ negsuc 0 *ℤ x
    minus x = omega (arith, ints)

    below : (x : ℤ) → int_lt x (pos 0) ≡ true → pos 0 <ℤ neg_ℤ x
    below x e = omega (arith, ints)

    above : (x : ℤ) → int_lt x (pos 0) ≡ false → ¬ (x ≡ pos 0) → pos 0 <ℤ x
    above x e h = omega (arith, ints)

module _ (r t : Row) (h : IsTurned r t) where
  sign_counts : ¬ (h.sign ≡ pos 0)
  sign_counts e = let q : unsigned_abs h.sign ≡ 0 = ap unsigned_abs e in let o : unsigned_abs h.sign ≡ 1 = h.one in omega arith

  turned_zero : (j : ℕ) → entry r j ≡ pos 0 → entry t j ≡ pos 0
  turned_zero j z = h.same j ∙ ap (λ x. h.sign *ℤ x) z ∙ solve integer_ring (listed (pos 0) (h.sign ∷ [])) (v 0 ⊗ c0) c0 refl

  turned_back : (j : ℕ) → entry t j ≡ pos 0 → entry r j ≡ pos 0
  turned_back j z = no_zero_divisors_ℤ h.sign (entry r j) sign_counts (sym (h.same j) ∙ z)

  turned_size : (j : ℕ) → unsigned_abs (entry t j) ≡ unsigned_abs (entry r j)
  turned_size j = ap unsigned_abs (h.same j) ∙ unsigned_abs-mul h.sign (entry r j) ∙ ap (λ n. n * unsigned_abs (entry r j)) h.one ∙ one_times (unsigned_abs (entry r j))
    where
      one_times : (n : ℕ) → 1 * n ≡ n
      one_times n = omega arith

  turned_primitive : HasNoCommonDivisor entry r → HasNoCommonDivisor entry t
  turned_primitive p d k = p d (λ j. subst (λ n. d ∣ n) (turned_size j) (k j))

  turned_pivot : ¬ (entry r (pivot r) ≡ pos 0) → pivot t ≡ pivot r
  turned_pivot n = pivot_is t (pivot r) (λ z. n (turned_back (pivot r) z)) (λ j l. turned_zero j (before_pivot r j l))

  turned_positive : ¬ (entry r (pivot r) ≡ pos 0) → pos 0 <ℤ entry t (pivot t)
  turned_positive n = subst (λ j. pos 0 <ℤ entry t j) (sym (turned_pivot n)) (h.positive n)

  pub turned_spanned : (xs : List Row) → IsSpanned entry xs (entry r) → IsSpanned entry xs (entry t)
  turned_spanned xs s =
      spanned_same entry xs (λ j. h.sign *ℤ entry r j +ℤ pos 0 *ℤ entry r j) (entry t)
      (λ j. solve integer_ring (listed (pos 0) (h.sign ∷ entry r j ∷ [])) (v 0 ⊗ v 1 ⊕ c0 ⊗ v 1) (v 0 ⊗ v 1) refl ∙ sym (h.same j))
      (spanned-plus entry xs h.sign (pos 0) (entry r) (entry r) s s)

  pub turned_spans : (xs : List Row) → IsSpanned entry xs (entry t) → IsSpanned entry xs (entry r)
  turned_spans xs s = spanned_over entry xs h.sign (entry r) (let o : unsigned_abs h.sign ≡ 1 = h.one in omega arith) (spanned_same entry xs (entry t) (λ j. h.sign *ℤ entry r j) h.same s)

pub all_turned_each : (P Q : Row → Type 0) → ((r t : Row) → P r → IsTurned r t → Q t) → (rs : List Row) → Every P rs → Every Q (turned_rows rs)
all_turned_each P Q f [] h = tt
all_turned_each P Q f (r ∷ rs) h = (f r (turned_row r) h.0 (turned_is r), all_turned_each P Q f rs h.1)

pub all_turned_each_back : (P Q : Row → Type 0) → ((r t : Row) → Q t → IsTurned r t → P r) → (rs : List Row) → Every Q (turned_rows rs) → Every P rs
all_turned_each_back P Q f [] h = tt
all_turned_each_back P Q f (r ∷ rs) h = (f r (turned_row r) h.0 (turned_is r), all_turned_each_back P Q f rs h.1)

abbrev Counts : Row → Type 0
Counts p = ¬ (entry p (pivot p) ≡ pos 0)

turned_apart : (x y s t : Row) → Counts x → Counts y → Apart x y → IsTurned x s → IsTurned y t → Apart s t
turned_apart x y s t cx cy a hx hy =
    let px : pivot s ≡ pivot x = turned_pivot x s hx cx in
    let py : pivot t ≡ pivot y = turned_pivot y t hy cy in
    record {
      rise = let r = a.rise in omega arith;
      left = subst (λ j. entry s j ≡ pos 0) (sym py) (turned_zero x s hx (pivot y) a.left);
      right = subst (λ j. entry t j ≡ pos 0) (sym px) (turned_zero y t hy (pivot x) a.right);
    }

turned_two : (rs : List Row) → Every Counts rs → EveryTwo Apart rs → EveryTwo Apart (turned_rows rs)
turned_two [] h t = tt
turned_two (r ∷ rs) h t = (
  all_turned_each (λ y. Counts y × Apart r y) (Apart (turned_row r)) (λ y s q u. turned_apart r y (turned_row r) s h.0 q.0 q.1 (turned_is r) u) rs (every_both Counts (Apart r) (λ y. Counts y × Apart r y) (λ y p q. (p, q)) rs h.1 t.0),
  turned_two rs h.1 t.1,
)

pub turned_reduced : (n : ℕ) (rows ps : List Row) → Ended n rows ps → IsReduced entry ◌<◌ (turned_rows ps)
turned_reduced n rows ps h =
    reduced_rows (turned_rows ps)
    (all_turned_each (HasNoCommonDivisor entry) (HasNoCommonDivisor entry) (λ r t p u. turned_primitive r t u p) ps h.primitive)
    (all_turned_each Counts (λ r. pos 0 <ℤ entry r (pivot r)) (λ r t p u. turned_positive r t u p) ps h.pivots)
    (turned_two ps h.pivots h.apart)
