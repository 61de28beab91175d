-- The difference of an equation in solved form, whose right side does not have the lead, with absolute values.
use Rattle.std.specs.Prelude.{◌≡◌, ℕ, Bool, true, false, cond, ℤ, pos, negsuc, ◌+ℤ◌, unsigned_abs}
use Rattle.std.specs.Ordering.{eq_by_cmp}
use Rattle.std.proofs.Common.{refl, sym, ap, ap₂, ◌∙◌, arith, true≢false}
use borrow.Author.Differences.{ints}
use Rattle.lie_math.proofs.Differences.{negative_twice}
use Rattle.lie_math.specs.FiniteSumLaws.{ext, value-none, value-plus, value-term}
use Rattle.lie_math.specs.Limits.{absolute}
use Rattle.lie_math.specs.Monomial.{Monomial, monomial_cmp, single}
use Rattle.lie_math.specs.Polynomial.{WholePolynomial, terms, coefficient, constant, variable, negᴾ, ◌+ᴾ◌, ◌*ᴾ◌}
use Rattle.lie_math.specs.PolynomialRing.{negᴾ_l, one-*ᴾ}
use Rattle.lie_math.specs.Variables.{FreeOf}
use Rattle.lie_math.proofs.FiniteSum.{key}
use Rattle.lie_geometry.specs.SolvedEquations.{SolvedEquation, difference}
use Rattle.lie_jet.proofs.PolynomialBounds.{coefficient_absolute}
use Rattle.lie_jet.proofs.NumberTimesVariable.{times_variable}
use Rattle.lie_reduce.specs.Applications.{sides}
use Rattle.lie_solved.proofs.LinearTerms.{exponent_single}

negative_coefficient : (p : WholePolynomial) (m : Monomial) → coefficient (negᴾ p) m +ℤ coefficient p m ≡ pos 0
negative_coefficient p m = sym (value-plus terms (negᴾ p) p m) ∙ ap (λ q. coefficient q m) (negᴾ_l p) ∙ value-none terms m

module _ (r : SolvedEquation) (free : FreeOf r.lead r.right) where
  lead_part : Monomial → ℤ
  lead_part m = cond (eq_by_cmp monomial_cmp m (single r.lead)) r.factor (pos 0)

  difference_at : (m : Monomial) → coefficient (difference r) m ≡ lead_part m +ℤ coefficient (negᴾ r.right) m
  unfolding lead_part
  difference_at m = value-plus terms (constant r.factor *ᴾ variable r.lead) (negᴾ r.right) m ∙ ap (λ z. z +ℤ coefficient (negᴾ r.right) m) (ap (λ p. coefficient p m) (times_variable r.lead r.factor) ∙ value-term terms (single r.lead) r.factor m)

  -- the right side does not have the lead alone
  right_at_lead : coefficient r.right (single r.lead) ≡ pos 0
  right_at_lead = by (Rattle.lie_math.specs.Integer.is_zero_int (coefficient r.right (single r.lead))) refl
    where
      by : (t : Bool) → Rattle.lie_math.specs.Integer.is_zero_int (coefficient r.right (single r.lead)) ≡ t → coefficient r.right (single r.lead) ≡ pos 0
      by true e = Rattle.lie_math.specs.Integer.int_nil _ e
      by false e = absurd (one (sym (exponent_single r.lead) ∙ free (single r.lead) (λ z. true≢false (sym (ap Rattle.lie_math.specs.Integer.is_zero_int z) ∙ e))))
        where
          one : ◌≡◌ {A = ℕ} 1 0 → ⊥
          one q = omega arith

  -- ---- with absolute values
  absolute_difference : absolute (difference r) ≡ constant (pos (unsigned_abs r.factor)) *ᴾ variable r.lead +ᴾ absolute r.right
  unfolding lead_part
  absolute_difference = ext terms _ _ (λ m. coefficient_absolute (difference r) m ∙ by m (eq_by_cmp monomial_cmp m (single r.lead)) refl
      ∙ sym (value-plus terms (constant (pos (unsigned_abs r.factor)) *ᴾ variable r.lead) (absolute r.right) m
      ∙ ap₂ ◌+ℤ◌ (ap (λ p. coefficient p m) (times_variable r.lead (pos (unsigned_abs r.factor))) ∙ value-term terms (single r.lead) (pos (unsigned_abs r.factor)) m) (coefficient_absolute r.right m)))
    where
      with_lead : (d c n x : ℤ) → d ≡ c +ℤ n → n +ℤ x ≡ pos 0 → x ≡ pos 0 → pos (unsigned_abs d) ≡ pos (unsigned_abs c) +ℤ pos (unsigned_abs x)
      with_lead d c n x e f g = omega (arith, ints)

      without : (d n x : ℤ) → d ≡ pos 0 +ℤ n → n +ℤ x ≡ pos 0 → pos (unsigned_abs d) ≡ pos 0 +ℤ pos (unsigned_abs x)
      without d n x e f = omega (arith, ints)

      by : (m : Monomial) (t : Bool) → eq_by_cmp monomial_cmp m (single r.lead) ≡ t → pos (unsigned_abs (coefficient (difference r) m)) ≡ cond (eq_by_cmp monomial_cmp m (single r.lead)) (pos (unsigned_abs r.factor)) (pos 0) +ℤ pos (unsigned_abs (coefficient r.right m))
      by m true e =
          with_lead (coefficient (difference r) m) r.factor (coefficient (negᴾ r.right) m) (coefficient r.right m) (difference_at m ∙ ap (λ t. cond t r.factor (pos 0) +ℤ coefficient (negᴾ r.right) m) e) (negative_coefficient r.right m) (ap (coefficient r.right) (key terms m (single r.lead) e) ∙ right_at_lead)
          ∙ ap (λ t. cond t (pos (unsigned_abs r.factor)) (pos 0) +ℤ pos (unsigned_abs (coefficient r.right m))) (sym e)
      by m false e =
          without (coefficient (difference r) m) (coefficient (negᴾ r.right) m) (coefficient r.right m) (difference_at m ∙ ap (λ t. cond t r.factor (pos 0) +ℤ coefficient (negᴾ r.right) m) e) (negative_coefficient r.right m)
          ∙ ap (λ t. cond t (pos (unsigned_abs r.factor)) (pos 0) +ℤ pos (unsigned_abs (coefficient r.right m))) (sym e)

-- ---- with a sign
absolute_negative : (p : WholePolynomial) → absolute (negᴾ p) ≡ absolute p
absolute_negative p = ext terms (absolute (negᴾ p)) (absolute p) (λ m. coefficient_absolute (negᴾ p) m ∙ same (coefficient (negᴾ p) m) (coefficient p m) (negative_coefficient p m) ∙ sym (coefficient_absolute p m))
  where
    same : (n x : ℤ) → n +ℤ x ≡ pos 0 → pos (unsigned_abs n) ≡ pos (unsigned_abs x)
    same n x e = omega (arith, ints)

free_negative : (v : ℕ) (p : WholePolynomial) → FreeOf v p → FreeOf v (negᴾ p)
free_negative v p free m apart = free m (λ z. apart (none _ _ (negative_coefficient p m) z))
  where
    none : (n x : ℤ) → n +ℤ x ≡ pos 0 → x ≡ pos 0 → n ≡ pos 0
    none n x e h = omega (arith, ints)

pub absolute_sides : (w : ℕ) (c s : ℤ) (R : WholePolynomial) → unsigned_abs s ≡ 1 → FreeOf w R → absolute (sides w c s R) ≡ sides w (pos (unsigned_abs c)) (pos 1) (absolute R)
absolute_sides w c (pos n) R unit free =
    ap (λ q. absolute (constant c *ᴾ variable w +ᴾ q)) (ap (λ k. constant (pos k) *ᴾ R) unit ∙ one-*ᴾ R ∙ sym (negative_twice R))
    ∙ absolute_difference (record { lead = w; factor = c; right = negᴾ R }) (free_negative w R free) ∙ ap (λ q. constant (pos (unsigned_abs c)) *ᴾ variable w +ᴾ q) (absolute_negative R ∙ sym (one-*ᴾ (absolute R)))
absolute_sides w c (negsuc n) R unit free =
    ap (λ k. absolute (constant c *ᴾ variable w +ᴾ constant (negsuc k) *ᴾ R)) (let e : n ≡ 0 = less unit in e) ∙ absolute_difference (record { lead = w; factor = c; right = R }) free
    ∙ ap (λ q. constant (pos (unsigned_abs c)) *ᴾ variable w +ᴾ q) (sym (one-*ᴾ (absolute R)))
  where
    less : unsigned_abs (negsuc n) ≡ 1 → n ≡ 0
    less e = omega arith
