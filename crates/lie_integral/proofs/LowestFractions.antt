-- Fractions in lowest terms: what makes one whole is a multiple of its divisor, and one more factor of the divisor. Common multiples.
use Rattle.std.specs.Prelude.{◌≡◌, ℕ, zero, suc, ◌*◌, ◌/◌, ◌<◌, ◌≤◌, ◌↔◌, ℤ, pos, ◌*ℤ◌, unsigned_abs, int_div}
use Rattle.std.specs.Int.{◌∣◌, IsGcd}
use Rattle.std.proofs.Common.{refl, sym, ap, subst, ◌∙◌, arith}
use Rattle.std.proofs.lemmas.Int.{unsigned_abs-mul}
use Rattle.std.proofs.lemmas.Nat.Gcd.{same_from_IsGcd, dvd_trans, le_of_dvd}
use Rattle.std.proofs.Math.Nat.{dvd-mul_left, dvd-mul_right, dvd-mul_left_of_dvd, dvd_of_mul-dvd-mul_left, mul-dvd-mul_left, one-dvd}
use Rattle.std.proofs.Math.Nat.{mul-div_cancel'}
use Rattle.lie_math.specs.CommonDivisors.{common_divisor}
use Rattle.lie_math.proofs.Integer.{cancel_ℤ, int_div_exact}
use Rattle.lie_math.proofs.CommonDivisors.{common_divisor_is, scaled_divides}
use Rattle.lie_math.specs.Limits.{number_limit}
use Rattle.lie_integral.specs.Fractions.{IsPositive, IsLowest, IsFraction, NoneClears}
use Rattle.lie_ring.proofs.Ratios.{divisor_positive}
use Rattle.lie_integral.specs.declared.fractions.Fraction.{Fraction}
use Rattle.lie_integral.proofs.WholeIdentities.{reduced_same}

-- ---- numbers without a common divisor
-- what divides multiples by both divides the number
lowest_divides : (c a b d : ℕ) → IsGcd a b 1 → d ∣ c * a → d ∣ c * b → d ∣ c
lowest_divides c a b d h p q =
    subst (λ n. d ∣ n) (ap (λ g. c * g) (same_from_IsGcd a b (common_divisor a b) 1 (common_divisor_is a b) h) ∙ plain c)
    (scaled_divides c a b d p q)
  where
    plain : (n : ℕ) → n * 1 ≡ n
    plain n = omega arith

-- without their greatest common divisor
reduced_lowest : (g a b x y : ℕ) → 0 < g → g * x ≡ a → g * y ≡ b → IsGcd a b g → IsGcd x y 1
reduced_lowest g a b x y p first second h = (
  one-dvd x,
  one-dvd y,
  λ d k l. dvd_of_mul-dvd-mul_left {k = g} d p
      (subst (λ n. g * d ∣ n) (plain g)
      (h.2 (g * d) (subst (λ n. g * d ∣ n) first (mul-dvd-mul_left d g k)) (subst (λ n. g * d ∣ n) second (mul-dvd-mul_left d g l)))),
)
  where
    plain : (n : ℕ) → n ≡ n * 1
    plain n = omega arith

turned : (a b : ℕ) → a * b ≡ b * a
turned a b = grind arith

-- a factor of a positive number by a positive one is positive
pub quotient_positive : (g h k : ℤ) → IsPositive h → IsPositive g → g *ℤ k ≡ h → k ≡ pos (unsigned_abs k)
quotient_positive g h k hp gp e =
    cancel_ℤ g k (pos (unsigned_abs k))
    (λ z. absurd (let p : 0 < unsigned_abs g = gp.1 in let q : unsigned_abs g ≡ 0 = ap unsigned_abs z in omega arith))
    (e ∙ hp.0 ∙ ap pos (sym (ap unsigned_abs e) ∙ unsigned_abs-mul g k) ∙ ap (λ w. w *ℤ pos (unsigned_abs k)) (sym gp.0))

-- ---- fractions
module _ (n : ℤ) (D : ℕ) (x : ℤ) (y : ℕ) (f : IsLowest n D x y) where
  sizes : unsigned_abs x * D ≡ unsigned_abs n * y
  sizes = sym (unsigned_abs-mul x (pos D)) ∙ ap unsigned_abs f.same ∙ unsigned_abs-mul n (pos y)

  -- what makes it whole is a multiple of the divisor
  pub clears_forth : (M : ℕ) → D ∣ M * unsigned_abs n → y ∣ M
  clears_forth M h =
      lowest_divides M (unsigned_abs x) y y f.lowest
      (dvd_of_mul-dvd-mul_left {k = D} y f.some
      (subst (λ k. D * y ∣ k) (moved M (unsigned_abs n) y ∙ ap (λ k. M * k) (sym sizes) ∙ moved_back M (unsigned_abs x) D) doubled))
      (dvd-mul_left y M)
    where
      doubled : D * y ∣ y * (M * unsigned_abs n)
      doubled = subst (λ k. k ∣ y * (M * unsigned_abs n)) (turned y D) (mul-dvd-mul_left D y h)

      moved : (M a y : ℕ) → y * (M * a) ≡ M * (a * y)
      moved M a y = grind arith

      moved_back : (M x D : ℕ) → M * (x * D) ≡ D * (M * x)
      moved_back M x D = grind arith

  pub clears_back : (M : ℕ) → y ∣ M → D ∣ M * unsigned_abs n
  clears_back M h =
      dvd_trans D (dvd-mul_left D (unsigned_abs x))
      (subst (λ k. k ∣ M * unsigned_abs n) (turned (unsigned_abs n) y ∙ turned y (unsigned_abs n) ∙ sym sizes)
      (subst (λ k. unsigned_abs n * y ∣ k) (turned (unsigned_abs n) M) (mul-dvd-mul_left y (unsigned_abs n) h)))

  -- with one more factor h of the divisor, of which g is taken off
  pub reduced : (z g h k : ℤ) → IsPositive h → IsPositive g → IsGcd (unsigned_abs x) (unsigned_abs h) (unsigned_abs g) → g *ℤ z ≡ x
      → g *ℤ k ≡ h
      → IsLowest n (D * unsigned_abs h) z (y * unsigned_abs k)
  reduced z g h k hp gp gcd first second = record {
    some = both D (unsigned_abs h) f.some (λ e. absurd (let p : 0 < unsigned_abs h = hp.1 in omega arith));
    same = reduced_same x z g (pos (unsigned_abs h)) (pos (unsigned_abs k)) n (pos y) (pos D) first whole f.same;
    positive = both y (unsigned_abs k) f.positive
        (λ e. absurd (let p : 0 < unsigned_abs h = hp.1 in let z = sym second_size ∙ ap (λ q. unsigned_abs g * q) e
        ∙ nothing (unsigned_abs g) in omega arith));
    lowest = (
      one-dvd (unsigned_abs z),
      one-dvd (y * unsigned_abs k),
      λ d p q. (f.lowest).2 d (dvd_trans d p z_divides)
          (lowest_divides y (unsigned_abs z) (unsigned_abs k) d apart (dvd-mul_left_of_dvd d p y) q),
    );
  }
    where
      first_size : unsigned_abs g * unsigned_abs z ≡ unsigned_abs x
      first_size = sym (unsigned_abs-mul g z) ∙ ap unsigned_abs first

      second_size : unsigned_abs g * unsigned_abs k ≡ unsigned_abs h
      second_size = sym (unsigned_abs-mul g k) ∙ ap unsigned_abs second

      whole : g *ℤ pos (unsigned_abs k) ≡ pos (unsigned_abs h)
      whole = ap (λ w. w *ℤ pos (unsigned_abs k)) gp.0 ∙ ap pos second_size

      nothing : (a : ℕ) → a * 0 ≡ 0
      nothing a = omega arith

      both : (a b : ℕ) → 0 < a → ¬ (b ≡ 0) → 0 < a * b
      both zero b p n = absurd (omega arith)
      both (suc a) zero p n = absurd (n refl)
      both (suc a) (suc b) p n = omega arith

      z_divides : unsigned_abs z ∣ unsigned_abs x
      z_divides = subst (λ q. unsigned_abs z ∣ q) first_size (dvd-mul_left (unsigned_abs z) (unsigned_abs g))

      apart : IsGcd (unsigned_abs z) (unsigned_abs k) 1
      apart = reduced_lowest (unsigned_abs g) (unsigned_abs x) (unsigned_abs h) (unsigned_abs z)
          (unsigned_abs k) gp.1 first_size second_size gcd

-- where the divisor is past the limit, so is what makes the fraction whole
pub none_clears : (n : ℤ) (D : ℕ) (x : ℤ) (y : ℕ) → IsLowest n D x y → number_limit ≤ y → NoneClears D (unsigned_abs n)
none_clears n D x y f wide M p h = let k : y ≤ M = le_of_dvd p (clears_forth n D x y f M h) in omega arith

-- the greatest common divisor as a whole number
pub whole_divisor : (w : ℤ) (g a b : ℕ) → w ≡ pos g → IsGcd a b g → 0 < b → IsPositive w × IsGcd a b (unsigned_abs w)
whole_divisor w g a b e h p = subst (λ (w : ℤ). IsPositive w × IsGcd a b (unsigned_abs w)) (sym e) ((refl, divisor_positive a b g h p), h)

-- a number over 1
pub whole_lowest : (n d : ℤ) → d ≡ pos 1 → IsPositive d × IsLowest n 1 n (unsigned_abs d)
whole_lowest n d e = subst (λ (d : ℤ). IsPositive d × IsLowest n 1 n (unsigned_abs d)) (sym e) (
  (refl, omega arith),
  record {
    some = omega arith;
    same = refl;
    positive = omega arith;
    lowest =
        (one-dvd (unsigned_abs n), one-dvd 1, λ d p q. q);
  },
)

-- ---- a fraction over one more factor
module _ (r : Fraction) (f g z k : ℤ) (fp : IsPositive f) (gp : IsPositive g)
    (gcd : IsGcd (unsigned_abs r.number) (unsigned_abs f) (unsigned_abs g)) (first : g *ℤ z ≡ r.number) (second : g *ℤ k ≡ f) where
  size : (n : ℤ) (D : ℕ) → IsFraction n D r → IsLowest n (D * unsigned_abs f) z (unsigned_abs (r.divisor *ℤ k))
  size n D h = subst (IsLowest n (D * unsigned_abs f) z) (sym (unsigned_abs-mul r.divisor k))
      (reduced n D r.number (unsigned_abs r.divisor) h.1 z g f k fp gp gcd first second)

  wide_size : (n : ℤ) (D : ℕ) → IsFraction n D r → number_limit ≤ unsigned_abs (r.divisor *ℤ k)
      → NoneClears (D * unsigned_abs f) (unsigned_abs n)
  wide_size n D h wide = none_clears n (D * unsigned_abs f) z (unsigned_abs (r.divisor *ℤ k)) (size n D h) wide

  pub over_fraction : (n : ℤ) (D : ℕ) (m w : ℤ) → IsFraction n D r → m ≡ r.divisor *ℤ k → w ≡ z → IsPositive m
      × IsLowest n (D * unsigned_abs f) w (unsigned_abs m)
  over_fraction n D m w h e q =
      subst (λ (w : ℤ). IsPositive m × IsLowest n (D * unsigned_abs f) w (unsigned_abs m)) (sym q)
      (subst (λ (m : ℤ). IsPositive m × IsLowest n (D * unsigned_abs f) z (unsigned_abs m)) (sym e) (
        (
          ap (λ x. x *ℤ k) (h.0).0 ∙ ap (λ x. pos (unsigned_abs r.divisor) *ℤ x) (quotient_positive g f k fp gp second)
              ∙ ap pos (sym (unsigned_abs-mul r.divisor k)),
          (size n D h).positive,
        ),
        size n D h,
      ))

pub over_wide : (r : Fraction) (f g k : ℤ) → IsPositive f → IsPositive g → IsGcd (unsigned_abs r.number) (unsigned_abs f) (unsigned_abs g)
    → g *ℤ k ≡ f
    → (n : ℤ) (D : ℕ) → IsFraction n D r → number_limit ≤ unsigned_abs (r.divisor *ℤ k) → NoneClears (D * unsigned_abs f) (unsigned_abs n)
over_wide r f g k fp gp gcd second =
    wide_size r f g (int_div r.number (pos (unsigned_abs g))) k fp gp gcd
    (ap (λ w. w *ℤ int_div r.number (pos (unsigned_abs g))) gp.0 ∙ int_div_exact r.number (unsigned_abs g) gcd.0) second

-- ---- common multiples
module _ (a b g x m : ℕ) (p : 0 < g) (is : IsGcd a b g) (part : g * x ≡ a) (whole : x * b ≡ m) where
  -- b = gy, and so m = ay
  other : (y : ℕ) × (g * y ≡ b)
  other = (b / g, mul-div_cancel' g is.1)

  m_is : a * other.0 ≡ m
  m_is = ap (λ n. n * other.0) (sym part) ∙ moved g x other.0 ∙ ap (λ n. x * n) other.1 ∙ whole
    where
      moved : (g x y : ℕ) → g * x * y ≡ x * (g * y)
      moved g x y = grind arith

  pub multiple_first : a ∣ m
  multiple_first = subst (λ n. a ∣ n) m_is (dvd-mul_right a other.0)

  pub multiple_second : b ∣ m
  multiple_second = subst (λ n. b ∣ n) whole (dvd-mul_left b x)

  pub multiple_least : (M : ℕ) → a ∣ M → b ∣ M → m ∣ M
  multiple_least M h k =
      lowest_divides M x other.0 m (reduced_lowest g a b x other.0 p part other.1 is)
      (subst (λ n. n ∣ M * x) (turned b x ∙ whole)
      (subst (λ n. b * x ∣ n) (turned x M) (subst (λ n. n ∣ x * M) (turned x b) (mul-dvd-mul_left b x k))))
      (subst (λ n. n ∣ M * other.0) m_is
      (subst (λ n. a * other.0 ∣ n) (turned other.0 M)
      (subst (λ n. n ∣ other.0 * M) (turned other.0 a) (mul-dvd-mul_left a other.0 h))))

-- ---- the least common multiple as a whole number
module _ (a b g x : ℤ) (apos : IsPositive a) (bp : IsPositive b) (gp : IsPositive g)
    (is : IsGcd (unsigned_abs a) (unsigned_abs b) (unsigned_abs g)) (part : g *ℤ x ≡ a) where
  part_size : unsigned_abs g * unsigned_abs x ≡ unsigned_abs a
  part_size = sym (unsigned_abs-mul g x) ∙ ap unsigned_abs part

  pub multiple_wide : number_limit ≤ unsigned_abs (x *ℤ b) → (M : ℕ) → 0 < M → unsigned_abs a ∣ M → unsigned_abs b ∣ M → number_limit ≤ M
  multiple_wide wide M p h k =
      let l : unsigned_abs (x *ℤ b) ≤ M =
      le_of_dvd p (subst (λ n. n ∣ M) (sym (unsigned_abs-mul x b))
      (multiple_least (unsigned_abs a) (unsigned_abs b) (unsigned_abs g) (unsigned_abs x)
      (unsigned_abs x * unsigned_abs b) gp.1 is part_size refl M h k)) in omega arith

  pub multiple_is : (m : ℤ) → m ≡ x *ℤ b → IsPositive m × ((M : ℕ) → ((unsigned_abs a ∣ M) × (unsigned_abs b ∣ M)) ↔ (unsigned_abs m ∣ M))
  multiple_is m e = subst (λ (m : ℤ). IsPositive m × ((M : ℕ) → ((unsigned_abs a ∣ M) × (unsigned_abs b ∣ M)) ↔ (unsigned_abs m ∣ M)))
      (sym e) (
        (
          ap (λ y. y *ℤ b) (quotient_positive g a x apos gp part) ∙ ap (λ y. pos (unsigned_abs x) *ℤ y) bp.0
              ∙ ap pos (sym (unsigned_abs-mul x b)),
          subst (λ n. 0 < n) (sym (unsigned_abs-mul x b))
              (both (unsigned_abs x) (unsigned_abs b) bp.1
              (λ z. absurd (let p : 0 < unsigned_abs a = apos.1 in let y = sym part_size ∙ ap (λ n. unsigned_abs g * n) z
              ∙ nothing (unsigned_abs g) in omega arith))),
        ),
        λ M. (
          λ h. subst (λ n. n ∣ M) (sym (unsigned_abs-mul x b))
              (multiple_least (unsigned_abs a) (unsigned_abs b) (unsigned_abs g) (unsigned_abs x)
              (unsigned_abs x * unsigned_abs b) gp.1 is part_size refl M h.0 h.1),
          λ h. (
            dvd_trans (unsigned_abs a) (multiple_first (unsigned_abs a) (unsigned_abs b) (unsigned_abs g) (unsigned_abs x)
                (unsigned_abs x * unsigned_abs b) gp.1 is part_size refl) (subst (λ n. n ∣ M) (unsigned_abs-mul x b) h),
            dvd_trans (unsigned_abs b) (multiple_second (unsigned_abs a) (unsigned_abs b) (unsigned_abs g) (unsigned_abs x)
                (unsigned_abs x * unsigned_abs b) gp.1 is part_size refl) (subst (λ n. n ∣ M) (unsigned_abs-mul x b) h),
          ),
        ),
      )
    where
      nothing : (a : ℕ) → a * 0 ≡ 0
      nothing a = omega arith

      both : (a b : ℕ) → 0 < b → ¬ (a ≡ 0) → 0 < a * b
      both zero b p n = absurd (n refl)
      both (suc a) zero p n = absurd (omega arith)
      both (suc a) (suc b) p n = omega arith
