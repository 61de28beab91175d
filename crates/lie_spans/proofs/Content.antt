-- The content of a row divides all entries, the row divided by it has no common divisor, and it is 0 for the zero row alone.
use Rattle.std.specs.Prelude.{◌≡◌, ℕ, zero, suc, ◌*◌, ◌<◌, [], ◌∷◌, ◌==◌, true, false, T, ℤ, pos, ◌*ℤ◌, unsigned_abs, length}
use Rattle.std.proofs.Common.{refl, sym, ap, subst, ◌∙◌, arith, eqb→eq, true≢false}
use Rattle.std.proofs.Math.Nat.{dvd_refl, dvd-zero, dvd_trans, dvd_antisymm, dvd_of_mul-dvd-mul_right, dvd-mul_left, mul-dvd-mul_right}
use Rattle.std.proofs.lemmas.Int.{unsigned_abs-mul}
use Prim.Native.Nat.{◌∣◌}
use borrow.Author.Differences.{ints}
use Rattle.lie_math.specs.Integer.{integer_ring}
use Rattle.lie_math.proofs.Integer.{int_div_exact}
use Rattle.lie_math.proofs.RingSolver.{v, c0, ◌⊗◌, solve, listed}
use Rattle.lie_spans.specs.Reduced.{HasNoCommonDivisor}
use Rattle.lie_spans.specs.Rows.{Row, entry}
use Rattle.lie_spans.specs.Content.{row_content, divided_row}
use Rattle.lie_math.proofs.CommonDivisors.{scaled_divides}
use Rattle.lie_spans.proofs.Divisors.{common_divisor_left, common_divisor_right}

pub positive_of_test : (n : ℕ) → (n == 0) ≡ false → 0 < n
positive_of_test zero e = absurd (true≢false e)
positive_of_test (suc n) e = omega arith

pub zero_of_test : (n : ℕ) → (n == 0) ≡ true → n ≡ 0
zero_of_test n e = eqb→eq n 0 (subst T (sym e) tt)

pub content_divides : (r : Row) (k : ℕ) → row_content r ∣ unsigned_abs (entry r k)
content_divides [] k = dvd-zero 0
content_divides (x ∷ xs) zero = common_divisor_left (unsigned_abs x) (row_content xs)
content_divides (x ∷ xs) (suc k) = dvd_trans (row_content (x ∷ xs)) (common_divisor_right (unsigned_abs x) (row_content xs)) (content_divides xs k)

pub content_greatest : (r : Row) (c d : ℕ) → ((k : ℕ) → d ∣ c * unsigned_abs (entry r k)) → d ∣ c * row_content r
content_greatest [] c d h = h 0
content_greatest (x ∷ xs) c d h = scaled_divides c (unsigned_abs x) (row_content xs) d (h 0) (content_greatest xs c d (λ k. h (suc k)))

pub length-divided : (g : ℕ) (r : Row) → length (divided_row g r) ≡ length r
length-divided g [] = refl
length-divided g (x ∷ xs) = ap suc (length-divided g xs)

pub divided_is : (g : ℕ) (r : Row) → ((k : ℕ) → g ∣ unsigned_abs (entry r k)) → (k : ℕ) → pos g *ℤ entry (divided_row g r) k ≡ entry r k
divided_is g [] h k = solve integer_ring (listed (pos g) (pos g ∷ [])) (v 0 ⊗ c0) c0 refl
divided_is g (x ∷ xs) h zero = int_div_exact x g (h 0)
divided_is g (x ∷ xs) h (suc k) = divided_is g xs (λ j. h (suc j)) k

pub primitive_divided : (r : Row) → 0 < row_content r → HasNoCommonDivisor entry (divided_row (row_content r) r)
primitive_divided r h d k =
    let size : (j : ℕ) → d * row_content r ∣ 1 * unsigned_abs (entry r j) = λ j.
    subst (λ n. d * row_content r ∣ n)
    (sym (unsigned_abs-mul (entry (divided_row (row_content r) r) j) (pos (row_content r))) ∙ ap unsigned_abs (solve integer_ring (listed (pos 0) (entry (divided_row (row_content r) r) j ∷ pos (row_content r) ∷ [])) (v 0 ⊗ v 1) (v 1 ⊗ v 0) refl ∙ divided_is (row_content r) r (content_divides r) j) ∙ one (unsigned_abs (entry r j)))
    (mul-dvd-mul_right d (k j) (row_content r)) in
    let part : d * row_content r ∣ 1 * row_content r = content_greatest r 1 (d * row_content r) size in
    dvd_antisymm (dvd_of_mul-dvd-mul_right d h part) (subst (λ n. 1 ∣ n) (one' d) (dvd-mul_left 1 d))
  where
    one : (n : ℕ) → n ≡ 1 * n
    one n = omega arith

    one' : (n : ℕ) → n * 1 ≡ n
    one' n = omega arith

pub content_primitive : (r : Row) → HasNoCommonDivisor entry r → row_content r ≡ 1
content_primitive r h = h (row_content r) (content_divides r)

pub vanishes_content : (r : Row) → ((k : ℕ) → entry r k ≡ pos 0) → row_content r ≡ 0
vanishes_content r h =
    dvd_zero' (subst (λ n. 0 ∣ n) (one (row_content r)) (content_greatest r 1 0 (λ k. subst (λ x. 0 ∣ 1 * unsigned_abs x) (sym (h k)) (dvd_refl 0))))
  where
    one : (n : ℕ) → 1 * n ≡ n
    one n = omega arith

    dvd_zero' : {n : ℕ} → 0 ∣ n → n ≡ 0
    dvd_zero' {n} k = dvd_antisymm (dvd-zero n) k

pub content_vanishes : (r : Row) → row_content r ≡ 0 → (k : ℕ) → entry r k ≡ pos 0
content_vanishes r h k = zero_of (entry r k) (dvd_antisymm (dvd-zero (unsigned_abs (entry r k))) (subst (λ g. g ∣ unsigned_abs (entry r k)) h (content_divides r k)))
  where
    zero_of : (x : ℤ) → unsigned_abs x ≡ 0 → x ≡ pos 0
    zero_of x e = omega (arith, ints)
