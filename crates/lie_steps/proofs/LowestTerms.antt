-- A number clears a fraction exactly if it is a multiple of the denominator in lowest terms.
use Rattle.std.specs.Prelude.{◌≡◌, ℕ, zero, suc, ◌*◌, ◌/◌, ◌<◌, ◌↔◌, pos, unsigned_abs}
use Rattle.std.proofs.Common.{sym, ap, ap₂, subst, ◌∙◌, arith}
use Rattle.std.specs.Int.{◌∣◌}
use Rattle.std.proofs.lemmas.Int.{unsigned_abs-mul}
use Rattle.std.proofs.Math.Nat.{dvd-mul_left, dvd-mul_right_of_dvd, dvd_of_mul-dvd-mul_left, eq_of_mul-eq-mul_left, eq-zero_of_zero-dvd, mul-div_cancel', mul-dvd-mul_left}
use Rattle.lie_math.specs.CommonDivisors.{common_divisor}
use Rattle.lie_math.proofs.CommonDivisors.{common_divisor_is, common_divisor-scaled}
use Rattle.lie_steps.specs.Integrate.{divisor}
use Rattle.lie_steps.specs.Laws.{ClearsByLowestTerms}
use Rattle.lie_steps.proofs.Denominators.{divisor_positive}

module _ (a b : ℕ) (positive : 0 < b) where
  divides_b : common_divisor b a ∣ b
  divides_b = (common_divisor_is b a).0

  divides_a : common_divisor b a ∣ a
  divides_a = (common_divisor_is b a).1

  g_positive : 0 < common_divisor b a
  g_positive = go (common_divisor b a) divides_b
    where
      go : (x : ℕ) → x ∣ b → 0 < x
      go zero h = absurd (let z : b ≡ 0 = eq-zero_of_zero-dvd h in omega arith)
      go (suc x) h = omega arith

  b_is : common_divisor b a * (b / common_divisor b a) ≡ b
  b_is = mul-div_cancel' (common_divisor b a) divides_b

  a_is : common_divisor b a * (a / common_divisor b a) ≡ a
  a_is = mul-div_cancel' (common_divisor b a) divides_a

  coprime : common_divisor (b / common_divisor b a) (a / common_divisor b a) ≡ 1
  coprime = eq_of_mul-eq-mul_left (common_divisor b a) g_positive _ 1
      (sym (common_divisor-scaled (common_divisor b a) (b / common_divisor b a) (a / common_divisor b a)) ∙ ap₂ common_divisor b_is a_is ∙ plain (common_divisor b a))
    where
      plain : (x : ℕ) → x ≡ x * 1
      plain x = omega arith

  pub lowest_terms : (L : ℕ) → (b ∣ L * a) ↔ ((b / common_divisor b a) ∣ L)
  lowest_terms L = (forth, back)
    where
      turned : (x y z : ℕ) → x * (y * z) ≡ y * (x * z)
      turned x y z = grind arith

      one : (x : ℕ) → x * 1 ≡ x
      one x = omega arith

      forth : b ∣ L * a → (b / common_divisor b a) ∣ L
      forth h =
          let inner : (b / common_divisor b a) ∣ L * (a / common_divisor b a) =
          dvd_of_mul-dvd-mul_left {k = common_divisor b a} (b / common_divisor b a) g_positive
          (subst (λ x. x ∣ common_divisor b a * (L * (a / common_divisor b a))) (sym b_is) (subst (λ x. b ∣ x) (ap (λ x. L * x) (sym a_is) ∙ turned L (common_divisor b a) (a / common_divisor b a)) h)) in
          subst (λ x. (b / common_divisor b a) ∣ x) (common_divisor-scaled L (b / common_divisor b a) (a / common_divisor b a) ∙ ap (λ x. L * x) coprime ∙ one L)
          ((common_divisor_is (L * (b / common_divisor b a)) (L * (a / common_divisor b a))).2 (b / common_divisor b a) (dvd-mul_left (b / common_divisor b a) L) inner)

      back : (b / common_divisor b a) ∣ L → b ∣ L * a
      back h = subst (λ x. b ∣ x) (sym (ap (λ x. L * x) (sym a_is) ∙ turned L (common_divisor b a) (a / common_divisor b a)))
          (subst (λ x. x ∣ common_divisor b a * (L * (a / common_divisor b a))) b_is (mul-dvd-mul_left (b / common_divisor b a) (common_divisor b a) (dvd-mul_right_of_dvd (b / common_divisor b a) h (a / common_divisor b a))))

pub clears_by_lowest_terms : ClearsByLowestTerms
clears_by_lowest_terms c v k t L n =
    let r = lowest_terms (unsigned_abs t.2) (unsigned_abs (divisor c v k t)) (divisor_positive c n v k t) L in
    (λ h. r.0 (subst (λ x. unsigned_abs (divisor c v k t) ∣ x) (unsigned_abs-mul (pos L) t.2) h), λ h. subst (λ x. unsigned_abs (divisor c v k t) ∣ x) (sym (unsigned_abs-mul (pos L) t.2)) (r.1 h))
