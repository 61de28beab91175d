-- The greatest common divisor: it is one, what divides multiples of both divides that multiple of it, and a common factor can be taken out.
use Rattle.std.specs.Prelude.{◌≡◌, ℕ, zero, suc, ◌*◌, ◌/◌, ◌%◌, ◌<◌, true, false, cond, eqb, T}
use Rattle.std.proofs.Common.{refl, sym, subst, ◌∙◌, arith, eqb→eq, eq-eqb, true≢false}
use Rattle.std.specs.Int.{IsGcd}
use Prim.Native.Nat.{◌∣◌}
use Rattle.std.proofs.lemmas.Nat.Gcd.{IsGcd-from_zero, IsGcd-from_mod, same_from_IsGcd, dvd_trans}
use Rattle.std.proofs.Math.Nat.{dvd-mul_right, mul-dvd-mul_left, dvd_of_mul-dvd-mul_left, mul-div_cancel'}
use Rattle.lie_math.specs.CommonDivisors.{divisor_within, common_divisor}

rest_less : (a b : ℕ) → eqb b 0 ≡ false → a % b < b
rest_less a b f = let n : ¬ (b ≡ 0) = λ e. true≢false (sym (eq-eqb b 0 e) ∙ f) in omega arith

divisor_within_is : (steps a b : ℕ) → b < steps → IsGcd a b (divisor_within steps a b)
divisor_within_is zero a b lt = absurd (omega arith)
divisor_within_is (suc steps) a b lt =
    elim (eqb b 0) as (λ t. eqb b 0 ≡ t → IsGcd a b (cond t a (divisor_within steps b (a % b)))) [
      | true ↦ λ e. IsGcd-from_zero a b (eqb→eq b 0 (subst T (sym e) tt))
      | false ↦ λ e. IsGcd-from_mod a b _ (divisor_within_is steps b (a % b) (let r = rest_less a b e in omega arith))
    ] refl

-- it divides both, and each number that divides both divides it
pub common_divisor_is : (a b : ℕ) → IsGcd a b (common_divisor a b)
unfolding common_divisor
common_divisor_is a b = divisor_within_is (suc b) a b (omega arith)

-- what divides c times both divides c times the common divisor
pub scaled_divides : (c a b d : ℕ) → d ∣ c * a → d ∣ c * b → d ∣ c * common_divisor a b
scaled_divides zero a b d p q = p_zero p
  where
    p_zero : d ∣ 0 * a → d ∣ 0 * common_divisor a b
    p_zero h = let e : 0 * a ≡ 0 * common_divisor a b = omega arith in subst (λ n. d ∣ n) e h
scaled_divides (suc c) a b d p q =
    dvd_trans d (k.2 d p q) (subst (λ n. n ∣ suc c * common_divisor a b) is (mul-dvd-mul_left (g / suc c) (suc c) (g_is.2 (g / suc c) (part a k.0) (part b k.1))))
  where
    g : ℕ
    g = common_divisor (suc c * a) (suc c * b)

    k : IsGcd (suc c * a) (suc c * b) (common_divisor (suc c * a) (suc c * b))
    k = common_divisor_is (suc c * a) (suc c * b)

    g_is : IsGcd a b (common_divisor a b)
    g_is = common_divisor_is a b

    is : suc c * (common_divisor (suc c * a) (suc c * b) / suc c) ≡ common_divisor (suc c * a) (suc c * b)
    is = mul-div_cancel' (suc c) ((common_divisor_is (suc c * a) (suc c * b)).2 (suc c) (dvd-mul_right (suc c) a) (dvd-mul_right (suc c) b))

    part : (x : ℕ) → common_divisor (suc c * a) (suc c * b) ∣ suc c * x → (common_divisor (suc c * a) (suc c * b) / suc c) ∣ x
    part x h = dvd_of_mul-dvd-mul_left {k = suc c} (common_divisor (suc c * a) (suc c * b) / suc c) (omega arith) (subst (λ n. n ∣ suc c * x) (sym is) h)

-- a common factor c
pub common_divisor-scaled : (c a b : ℕ) → common_divisor (c * a) (c * b) ≡ c * common_divisor a b
common_divisor-scaled c a b =
    same_from_IsGcd (c * a) (c * b) _ _ (common_divisor_is (c * a) (c * b))
    (mul-dvd-mul_left _ c (common_divisor_is a b).0, mul-dvd-mul_left _ c (common_divisor_is a b).1, scaled_divides c a b)
