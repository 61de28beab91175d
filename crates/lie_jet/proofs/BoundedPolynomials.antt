-- Polynomials under a bound: sums, multiples by a sign, and what is left of the bound.
use Rattle.std.specs.Prelude.{◌≡◌, ◌≤◌, ℕ, Bool, List, [], ◌∷◌, ℤ, pos, negsuc, ◌+ℤ◌, unsigned_abs}
use Rattle.std.proofs.Common.{sym, ap, subst, ◌∙◌, arith}
use borrow.Author.Differences.{ints}
use Rattle.lie_math.specs.Derivation.{sum_of}
use Rattle.lie_math.specs.FiniteSumLaws.{value-plus, value-none, ext}
use Rattle.lie_math.specs.Limits.{absolute}
use Rattle.lie_math.specs.Monomial.{Monomial}
use Rattle.lie_math.specs.Polynomial.{WholePolynomial, terms, coefficient, ◌+ᴾ◌, ◌*ᴾ◌, constant, negᴾ}
use Rattle.lie_math.specs.PolynomialRing.{negᴾ_l, one-*ᴾ}
use Rattle.lie_math.specs.Variables.{IsIn}
use Rattle.lie_math.proofs.Limits.{IsNonNegative, nonneg_sum, covered_first, covered_second}
use Rattle.lie_ring.specs.Causes.{IsCause}
use Rattle.lie_ring.specs.declared.failures.PolyFail.{PolyFail}
use Rattle.lie_poly.proofs.SumSteps.{cause_covered}
use Rattle.lie_jet.proofs.PolynomialBounds.{coefficient_absolute, IsBound, sum_bound, none_bound}

-- what is past in a polynomial is past in what bounds it
pub cause_bounded : (fail : PolyFail) (p b : WholePolynomial) → IsBound p b → IsCause fail p → IsCause fail b
cause_bounded fail p b h = cause_covered fail p b h.covered

pub absolute-nonneg : (p : WholePolynomial) → IsNonNegative p → absolute p ≡ p
absolute-nonneg p h = ext terms (absolute p) p (λ m. coefficient_absolute p m ∙ sym (h.plain m))

-- ---- sums
-- a sum of polynomials without negative coefficients bounds both
pub bounded_first : (b d : WholePolynomial) → IsNonNegative b → IsNonNegative d → IsBound b (b +ᴾ d)
bounded_first b d h k = record { covered = covered_first b d h k; plain = nonneg_sum b d h k }

pub bounded_second : (b d : WholePolynomial) → IsNonNegative b → IsNonNegative d → IsBound d (b +ᴾ d)
bounded_second b d h k = record { covered = covered_second b d h k; plain = nonneg_sum b d h k }

pub bounded_sum_of : (is : List ℕ) (f g : ℕ → WholePolynomial) → ((i : ℕ) → IsBound (f i) (g i)) → IsBound (sum_of is f) (sum_of is g)
bounded_sum_of [] f g h = none_bound
bounded_sum_of (i ∷ is) f g h = sum_bound (f i) (sum_of is f) (g i) (sum_of is g) (h i) (bounded_sum_of is f g h)

-- a sum of polynomials without negative coefficients bounds what the first bounds
pub bounded_more : (p b d : WholePolynomial) → IsBound p b → IsNonNegative d → IsBound p (b +ᴾ d)
bounded_more p b d h k = record {
  covered = record { at_most = λ m. here (coefficient p m) (coefficient b m) (coefficient d m) (coefficient (b +ᴾ d) m) (value-plus terms b d m) (h.covered.at_most m) (h.plain.plain m) (k.plain m) };
  plain = nonneg_sum b d h.plain k;
}
  where
    here : (x u v t : ℤ) → t ≡ u +ℤ v → unsigned_abs x ≤ unsigned_abs u → u ≡ pos (unsigned_abs u) → v ≡ pos (unsigned_abs v) → unsigned_abs x ≤ unsigned_abs t
    here x u v t f a b k = omega (arith, ints)

-- ---- what is left of a bound
pub left_over : WholePolynomial → WholePolynomial → WholePolynomial
left_over p b = b +ᴾ negᴾ (absolute p)

cancelled : (p b : WholePolynomial) (m : Monomial) → coefficient (left_over p b) m +ℤ pos (unsigned_abs (coefficient p m)) ≡ coefficient b m
unfolding left_over
cancelled p b m = here _ _ _ (coefficient p m) _ (value-plus terms b (negᴾ (absolute p)) m) (sym (value-plus terms (negᴾ (absolute p)) (absolute p) m) ∙ ap (λ q. coefficient q m) (negᴾ_l (absolute p)) ∙ value-none terms m) (coefficient_absolute p m)
  where
    here : (b n a x s : ℤ) → s ≡ b +ℤ n → n +ℤ a ≡ pos 0 → a ≡ pos (unsigned_abs x) → s +ℤ pos (unsigned_abs x) ≡ b
    here b n a x s e f g = omega (arith, ints)

pub left_over_plain : (p b : WholePolynomial) → IsBound p b → IsNonNegative (left_over p b)
left_over_plain p b h = record { plain = λ m. here (coefficient (left_over p b) m) (coefficient p m) (coefficient b m) (cancelled p b m) (h.covered.at_most m) (h.plain.plain m) }
  where
    here : (s x y : ℤ) → s +ℤ pos (unsigned_abs x) ≡ y → unsigned_abs x ≤ unsigned_abs y → y ≡ pos (unsigned_abs y) → s ≡ pos (unsigned_abs s)
    here s x y e a b = omega (arith, ints)

pub left_over_sum : (p b : WholePolynomial) → absolute p +ᴾ left_over p b ≡ b
left_over_sum p b = ext terms (absolute p +ᴾ left_over p b) b (λ m. here _ _ (coefficient p m) _ _ (value-plus terms (absolute p) (left_over p b) m) (coefficient_absolute p m) (cancelled p b m))
  where
    here : (a s x y t : ℤ) → t ≡ a +ℤ s → a ≡ pos (unsigned_abs x) → s +ℤ pos (unsigned_abs x) ≡ y → t ≡ y
    here a s x y t e f g = omega (arith, ints)

pub absolute_in : (T : ℕ → Bool) (p : WholePolynomial) → IsIn T p → IsIn T (absolute p)
absolute_in T p h v out m n = h v out m (λ z. n (coefficient_absolute p m ∙ ap (λ c. pos (unsigned_abs c)) z))

-- ---- a sign
pub bounded_negative : (p b : WholePolynomial) → IsBound p b → IsBound (negᴾ p) b
bounded_negative p b h = record {
  covered = record { at_most = λ m. here (coefficient (negᴾ p) m) (coefficient p m) (coefficient b m) (sym (value-plus terms (negᴾ p) p m) ∙ ap (λ q. coefficient q m) (negᴾ_l p) ∙ value-none terms m) (h.covered.at_most m) };
  plain = h.plain;
}
  where
    here : (n x y : ℤ) → n +ℤ x ≡ pos 0 → unsigned_abs x ≤ unsigned_abs y → unsigned_abs n ≤ unsigned_abs y
    here n x y e a = omega (arith, ints)

pub bounded_signed : (z : ℤ) (p b : WholePolynomial) → unsigned_abs z ≡ 1 → IsBound p b → IsBound (constant z *ᴾ p) b
bounded_signed (pos n) p b e h = subst (λ k. IsBound (constant (pos k) *ᴾ p) b) (sym e) (subst (λ q. IsBound q b) (sym (one-*ᴾ p)) h)
bounded_signed (negsuc n) p b e h = subst (λ k. IsBound (constant (negsuc k) *ᴾ p) b) (none e) (bounded_negative p b h)
  where
    none : unsigned_abs (negsuc n) ≡ 1 → 0 ≡ n
    none e = omega arith
