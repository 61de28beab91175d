-- Exact quotients are those of the definitions, and the common divisor of two numbers is small.
use Rattle.std.specs.Prelude.{◌≡◌, ℕ, ◌<◌, ◌≤◌, ◌*◌, ℤ, pos, ◌*ℤ◌, neg_ℤ, unsigned_abs, int_div}
use Rattle.std.proofs.Common.{sym, subst, ◌∙◌, arith}
use Rattle.std.proofs.Math.Nat.{pos_of_dvd_of_pos, dvd_antisymm, dvd-zero, dvd_refl, dvd-mul_left}
use Rattle.std.proofs.lemmas.Nat.Gcd.{le_of_dvd}
use Prim.Native.Nat.{◌∣◌}
use borrow.Author.Differences.{ints}
use Rattle.lie_math.proofs.Integer.{not_zero, cancel_ℤ, int_div_exact}
use Rattle.lie_math.specs.Limits.{number_limit, FitsNumber}
use Rattle.lie_math.proofs.CommonDivisors.{common_divisor_is}
use Rattle.lie_math.specs.CommonDivisors.{common_divisor}
use Rattle.lie_spans.proofs.Divisors.{common_divisor_left}
use Rattle.lie_spans.proofs.Reduced.{abs_positive}
use Rattle.lie_spans.proofs.OneSolution.{multiple_back}

pub quotient_unique : (x : ℤ) (g : ℕ) (q : ℤ) → 0 < g → g ∣ unsigned_abs x → pos g *ℤ q ≡ x → q ≡ int_div x (pos g)
quotient_unique x g q h d e = cancel_ℤ (pos g) q (int_div x (pos g)) (not_zero g h) (e ∙ sym (int_div_exact x g d))

pub multiple_quotient : (m : ℕ) (a q : ℤ) → ¬ (a ≡ pos 0) → unsigned_abs a ∣ m → a *ℤ q ≡ pos m → q ≡ int_div (pos m) a
multiple_quotient m a q h d e = cancel_ℤ a q (int_div (pos m) a) h (e ∙ sym (multiple_back m a d))

pub common_divisor-zero : (b : ℕ) → common_divisor 0 b ≡ b
common_divisor-zero b = dvd_antisymm (common_divisor_is 0 b).1 ((common_divisor_is 0 b).2 b (dvd-zero b) (dvd_refl b))

pub common_divisor-one : (a : ℕ) → common_divisor a 1 ≡ 1
common_divisor-one a = dvd_antisymm (common_divisor_is a 1).1 (one_divides (common_divisor a 1))
  where
    one_divides : (n : ℕ) → 1 ∣ n
    one_divides n = subst (λ m. 1 ∣ m) (plain n) (dvd-mul_left 1 n)
      where
        plain : (n : ℕ) → n * 1 ≡ n
        plain n = omega arith

module _ (a b : ℤ) (h : ¬ (a ≡ pos 0)) where
  pub common_positive : 0 < common_divisor (unsigned_abs a) (unsigned_abs b)
  common_positive = pos_of_dvd_of_pos (common_divisor_left (unsigned_abs a) (unsigned_abs b)) (abs_positive a h)

  pub common_small : FitsNumber a → common_divisor (unsigned_abs a) (unsigned_abs b) < number_limit
  common_small f =
      let l : common_divisor (unsigned_abs a) (unsigned_abs b) ≤ unsigned_abs a = le_of_dvd (abs_positive a h) (common_divisor_left (unsigned_abs a) (unsigned_abs b)) in
      let k : unsigned_abs a < number_limit = f in
      omega arith

pub size_of_negative : (z : ℤ) → unsigned_abs (neg_ℤ z) ≡ unsigned_abs z
size_of_negative z = omega (arith, ints)
