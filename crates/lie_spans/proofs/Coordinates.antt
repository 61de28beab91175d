-- The coordinates in a reduced list are read off at the pivots, and there is one of each.
use Rattle.std.specs.Prelude.{◌≡◌, ℕ, zero, suc, ◌<◌, ◌*◌, List, [], ◌∷◌, ℤ, pos, ◌*ℤ◌, length, get_or, unsigned_abs}
use Rattle.std.proofs.Common.{refl, sym, ap, subst, ◌∙◌, arith}
use Rattle.std.specs.Int.{IsGcd}
use Prim.Native.Nat.{◌∣◌}
use Rattle.std.proofs.Math.Nat.{dvd_antisymm, dvd-mul_left, mul_comm}
use Rattle.std.proofs.lemmas.Int.{unsigned_abs-mul}
use Rattle.std.proofs.lemmas.Nat.Gcd.{same_from_IsGcd}
use Rattle.lie_math.specs.Integer.{integer_ring}
use Rattle.lie_math.proofs.Integer.{not_zero, cancel_ℤ}
use Rattle.lie_math.proofs.RingSolver.{v, ◌⊗◌, solve, listed}
use Rattle.lie_spans.specs.Spans.{IsSpanned}
use Rattle.lie_spans.specs.Reduced.{IsPivot, IsReduced}
use Rattle.lie_spans.specs.Coordinates.{IsSumOf, AreAtPivots, IsLowest}
use Rattle.lie_math.specs.CommonDivisors.{common_divisor}
use Rattle.lie_math.proofs.CommonDivisors.{common_divisor_is, scaled_divides}
use Rattle.lie_math.proofs.EveryElement.{every_at}
use Rattle.lie_spans.proofs.Reduced.{positive_not_zero, numbers_are}

-- an element of a list at a place
pub element_at : {X : Type 0} (xs : List X) (i : ℕ) → i < length xs → (x : X) × (x ≡ get_or xs i x)
element_at [] i l = absurd (omega arith)
element_at (y ∷ xs) zero l = (y, refl)
element_at (y ∷ xs) (suc i) l = element_at xs i (omega arith)

-- c over m is x over y, and a over d is x over y
same_fraction : (c x y a d m : ℤ) → ¬ (y ≡ pos 0) → m *ℤ x ≡ c *ℤ y → a *ℤ y ≡ x *ℤ d → c *ℤ d ≡ a *ℤ m
same_fraction c x y a d m n e f =
    cancel_ℤ y (c *ℤ d) (a *ℤ m) n
    (solve integer_ring (listed c (c ∷ d ∷ y ∷ [])) (v 2 ⊗ (v 0 ⊗ v 1)) (v 1 ⊗ (v 0 ⊗ v 2)) refl ∙ ap (λ z. d *ℤ z) (sym e)
    ∙ solve integer_ring (listed c (d ∷ m ∷ x ∷ [])) (v 0 ⊗ (v 1 ⊗ v 2)) (v 1 ⊗ (v 2 ⊗ v 0)) refl ∙ ap (λ z. m *ℤ z) (sym f)
    ∙ solve integer_ring (listed c (m ∷ a ∷ y ∷ [])) (v 0 ⊗ (v 1 ⊗ v 2)) (v 2 ⊗ (v 1 ⊗ v 0)) refl)

-- a over d is c over m, which is x over y: then a over d is x over y
fraction_back : (c x y a d m : ℤ) → ¬ (m ≡ pos 0) → m *ℤ x ≡ c *ℤ y → c *ℤ d ≡ a *ℤ m → a *ℤ y ≡ x *ℤ d
fraction_back c x y a d m n e f =
    cancel_ℤ m (a *ℤ y) (x *ℤ d) n
    (solve integer_ring (listed c (m ∷ a ∷ y ∷ [])) (v 0 ⊗ (v 1 ⊗ v 2)) (v 2 ⊗ (v 1 ⊗ v 0)) refl ∙ ap (λ z. y *ℤ z) (sym f)
    ∙ solve integer_ring (listed c (y ∷ c ∷ d ∷ [])) (v 0 ⊗ (v 1 ⊗ v 2)) (v 2 ⊗ (v 1 ⊗ v 0)) refl ∙ ap (λ z. d *ℤ z) (sym e)
    ∙ solve integer_ring (listed c (d ∷ m ∷ x ∷ [])) (v 0 ⊗ (v 1 ⊗ v 2)) (v 1 ⊗ (v 2 ⊗ v 0)) refl)

-- ---- lowest terms
divides_other : (a d e : ℕ) (c : ℕ) → IsGcd a d 1 → a * e ≡ c * d → d ∣ e
divides_other a d e c g h =
    subst (λ n. d ∣ n) (ap (λ n. e * n) (same_from_IsGcd a d (common_divisor a d) 1 (common_divisor_is a d) g) ∙ times_one e)
    (scaled_divides e a d d (subst (λ n. d ∣ n) (sym h ∙ mul_comm a e) (dvd-mul_left d c)) (dvd-mul_left d e))
  where
    times_one : (n : ℕ) → n * 1 ≡ n
    times_one n = omega arith

pub same_lowest : (a b : ℤ) (d e : ℕ) → IsLowest a d → IsLowest b e → a *ℤ pos e ≡ b *ℤ pos d → (a ≡ b) × (d ≡ e)
same_lowest a b d e h k q =
    let sizes : unsigned_abs a * e ≡ unsigned_abs b * d = sym (unsigned_abs-mul a (pos e)) ∙ ap unsigned_abs q ∙ unsigned_abs-mul b (pos d) in
    let same : d ≡ e = dvd_antisymm (divides_other (unsigned_abs a) d e (unsigned_abs b) h.lowest sizes) (divides_other (unsigned_abs b) e d (unsigned_abs a) k.lowest (sym sizes)) in (
      cancel_ℤ (pos e) a b (not_zero e k.positive)
          (solve integer_ring (listed a (a ∷ pos e ∷ [])) (v 1 ⊗ v 0) (v 0 ⊗ v 1) refl ∙ q ∙ ap (λ n. b *ℤ pos n) same ∙ solve integer_ring (listed a (b ∷ pos e ∷ [])) (v 0 ⊗ v 1) (v 1 ⊗ v 0) refl),
      same,
    )

-- two fractions that are x over y
both_fractions : (a b d e x y : ℤ) → ¬ (y ≡ pos 0) → a *ℤ y ≡ x *ℤ d → b *ℤ y ≡ x *ℤ e → a *ℤ e ≡ b *ℤ d
both_fractions a b d e x y n p q =
    cancel_ℤ y (a *ℤ e) (b *ℤ d) n
    (solve integer_ring (listed a (a ∷ e ∷ y ∷ [])) (v 2 ⊗ (v 0 ⊗ v 1)) (v 1 ⊗ (v 0 ⊗ v 2)) refl ∙ ap (λ z. e *ℤ z) p
    ∙ solve integer_ring (listed a (e ∷ x ∷ d ∷ [])) (v 0 ⊗ (v 1 ⊗ v 2)) (v 2 ⊗ (v 1 ⊗ v 0)) refl ∙ ap (λ z. d *ℤ z) (sym q)
    ∙ solve integer_ring (listed a (d ∷ b ∷ y ∷ [])) (v 0 ⊗ (v 1 ⊗ v 2)) (v 2 ⊗ (v 1 ⊗ v 0)) refl)

module _ {V C : Type 0} (entry : V → C → ℤ) (before : C → C → Type 0) (before_trans : (i j k : C) → before i j → before j k → before i k) (same_column : (j k : C) → ¬ (before j k) → ¬ (before k j) → j ≡ k) where
  module _ (vs : List V) (h : IsReduced entry before vs) (numerator : ℕ → ℤ) (denominator : ℕ → ℕ) (w : C → ℤ) where
    pub sum_at_pivots : IsSpanned entry vs w → AreAtPivots entry before vs numerator denominator w → IsSumOf entry vs numerator denominator w
    sum_at_pivots s f = record {
      spanned = s;
      fractions = λ i l.
          let r = element_at vs i l in
          let p = every_at (λ x. (k : C) × IsPivot entry before x k) vs i r.0 l r.1 h.pivots in
          same_fraction (s.numbers i) (w p.0) (entry r.0 p.0) (numerator i) (pos (denominator i)) (pos s.multiple) (positive_not_zero (entry r.0 p.0) p.1.positive)
          (numbers_are entry before before_trans same_column vs w h s i r.0 l r.1 p.0 p.1) (f i r.0 p.0 l r.1 p.1);
    }

    pub at_pivots_of_sum : IsSumOf entry vs numerator denominator w → AreAtPivots entry before vs numerator denominator w
    at_pivots_of_sum s i r k l e p =
        fraction_back (s.spanned.numbers i) (w k) (entry r k) (numerator i) (pos (denominator i)) (pos s.spanned.multiple) (not_zero s.spanned.multiple s.spanned.positive)
        (numbers_are entry before before_trans same_column vs w h s.spanned i r l e k p) (s.fractions i l)

  -- a vector has one list of fractions in lowest terms
  pub one_sum : (vs : List V) → IsReduced entry before vs → (a b : ℕ → ℤ) (d e : ℕ → ℕ) (w : C → ℤ) → IsSumOf entry vs a d w → IsSumOf entry vs b e w
      → (i : ℕ) → i < length vs → IsLowest (a i) (d i) → IsLowest (b i) (e i) → (a i ≡ b i) × (d i ≡ e i)
  one_sum vs h a b d e w s t i l p q =
      let r = element_at vs i l in
      let k = every_at (λ x. (j : C) × IsPivot entry before x j) vs i r.0 l r.1 h.pivots in
      same_lowest (a i) (b i) (d i) (e i) p q (both_fractions (a i) (b i) (pos (d i)) (pos (e i)) (w k.0) (entry r.0 k.0) (positive_not_zero (entry r.0 k.0) k.1.positive)
      (at_pivots_of_sum vs h a d w s i r.0 k.0 l r.1 k.1) (at_pivots_of_sum vs h b e w t i r.0 k.0 l r.1 k.1))
