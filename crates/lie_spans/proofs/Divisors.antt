-- Each of two numbers is a multiple of their common divisor, and what divides all multiples of a number by numbers without a common divisor divides it.
use Rattle.std.specs.Prelude.{◌≡◌, ℕ, ◌*◌, ◌/◌, ◌<◌}
use Rattle.std.proofs.Common.{sym, ap, subst, ◌∙◌, arith}
use Prim.Native.Nat.{◌∣◌}
use Rattle.std.proofs.lemmas.Nat.Gcd.{IsGcd-swap, same_from_IsGcd}
use Rattle.std.proofs.Math.Nat.{dvd-mul_left, dvd_of_mul-dvd-mul_right, div-mul_cancel, mul_comm, pos_of_dvd_of_pos}
use Rattle.lie_math.specs.CommonDivisors.{common_divisor}
use Rattle.lie_math.proofs.CommonDivisors.{common_divisor_is, scaled_divides}

module _ (a b : ℕ) where
  pub common_divisor_left : common_divisor a b ∣ a
  common_divisor_left = (common_divisor_is a b).0

  pub common_divisor_right : common_divisor a b ∣ b
  common_divisor_right = (common_divisor_is a b).1

  pub common_divisor_comm : common_divisor a b ≡ common_divisor b a
  common_divisor_comm = same_from_IsGcd a b (common_divisor a b) (common_divisor b a) (common_divisor_is a b) (IsGcd-swap b a (common_divisor b a) (common_divisor_is b a))

-- a divisor of all multiples of b by numbers that have no common divisor divides b
pub divides_through : {C : Type 0} (size : C → ℕ) → ((d : ℕ) → ((k : C) → d ∣ size k) → d ≡ 1) → (m b : ℕ) → 0 < m → ((k : C) → m ∣ b * size k) → m ∣ b
divides_through size prime m b positive h =
    let g : ℕ = common_divisor b m in
    let part : m / common_divisor b m * common_divisor b m ≡ m = div-mul_cancel (common_divisor b m) (common_divisor_right b m) in
    let one : m / common_divisor b m ≡ 1 =
    prime (m / common_divisor b m) (λ k.
    dvd_of_mul-dvd-mul_right (m / common_divisor b m) (pos_of_dvd_of_pos (common_divisor_right b m) positive)
    (subst (λ n. n ∣ size k * common_divisor b m) (sym part)
    (scaled_divides (size k) b m m (subst (λ n. m ∣ n) (mul_comm b (size k)) (h k)) (dvd-mul_left m (size k))))) in
    subst (λ n. n ∣ b) (sym (times_one (common_divisor b m)) ∙ ap (λ n. n * common_divisor b m) (sym one) ∙ part) (common_divisor_left b m)
  where
    times_one : (n : ℕ) → 1 * n ≡ n
    times_one n = omega arith
