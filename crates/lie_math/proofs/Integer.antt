-- The whole numbers: no divisors of zero, signs, and division that leaves nothing.
use Rattle.std.specs.Prelude.{◌≡◌, ℕ, zero, suc, ◌*◌, ◌/◌, ◌<◌, [], ◌∷◌, ℤ, pos, negsuc, ◌+ℤ◌, ◌*ℤ◌, neg_ℤ, unsigned_abs, int_div, ◌⊎◌}
use Rattle.std.proofs.Common.{refl, sym, ap, ◌∙◌, arith, inl, inr}
use Rattle.std.proofs.Math.Nat.{eq_of_mul-eq-mul_left, div-mul_cancel, mul_comm}
use Rattle.std.proofs.lemmas.Int.{unsigned_abs-mul}
use Prim.Native.Nat.{◌∣◌}
use lib.IntN.{+ℤ_idl, *ℤ_comm}
use borrow.Author.Differences.{ints}
use Rattle.lie_math.proofs.RingSolver.{c0, listed, solve, v, ⊖, ◌⊕◌, ◌⊗◌}
use Rattle.lie_math.specs.Integer.{integer_ring, *ℤ-idl, neg-*ℤ}

pub unsigned_abs_zero : (a : ℤ) → unsigned_abs a ≡ 0 → a ≡ pos 0
unsigned_abs_zero (pos n) e = ap pos e
unsigned_abs_zero (negsuc n) e = absurd (omega arith)

pub no_zero_divisors_ℤ : (a b : ℤ) → ¬ (a ≡ pos 0) → a *ℤ b ≡ pos 0 → b ≡ pos 0
no_zero_divisors_ℤ a b h e = unsigned_abs_zero b (by_size (unsigned_abs a) refl)
  where
    product : unsigned_abs a * unsigned_abs b ≡ 0
    product = sym (unsigned_abs-mul a b) ∙ ap unsigned_abs e

    by_size : (n : ℕ) → unsigned_abs a ≡ n → unsigned_abs b ≡ 0
    by_size zero z = absurd (h (unsigned_abs_zero a z))
    by_size (suc n) z = eq_of_mul-eq-mul_left (unsigned_abs a) (omega arith) (unsigned_abs b) 0 (product ∙ omega arith)

pub cancel_ℤ : (a x y : ℤ) → ¬ (a ≡ pos 0) → a *ℤ x ≡ a *ℤ y → x ≡ y
cancel_ℤ a x y h e =
    let gone : x +ℤ neg_ℤ y ≡ pos 0 =
    no_zero_divisors_ℤ a (x +ℤ neg_ℤ y) h
    (solve integer_ring (listed a (a ∷ x ∷ y ∷ [])) (v 0 ⊗ (v 1 ⊕ ⊖ (v 2))) ((v 0 ⊗ v 1) ⊕ ⊖ (v 0 ⊗ v 2)) refl
    ∙ ap (λ z. z +ℤ neg_ℤ (a *ℤ y)) e ∙ solve integer_ring (listed a (a ∷ y ∷ [])) ((v 0 ⊗ v 1) ⊕ ⊖ (v 0 ⊗ v 1)) c0 refl) in
    solve integer_ring (listed x (x ∷ y ∷ [])) (v 0) ((v 0 ⊕ ⊖ (v 1)) ⊕ v 1) refl ∙ ap (λ z. z +ℤ y) gone ∙ +ℤ_idl y

-- what turns a number into its absolute value
pub sign : (d : ℤ) → (s : ℤ) × (s *ℤ d ≡ pos (unsigned_abs d))
sign (pos n) = (pos 1, *ℤ-idl (pos n))
sign (negsuc n) = (negsuc 0, omega (arith, ints))

pub int_div_exact : (x : ℤ) (g : ℕ) → g ∣ unsigned_abs x → pos g *ℤ int_div x (pos g) ≡ x
int_div_exact (pos n) g h = ap pos (mul_comm g (n / g) ∙ div-mul_cancel g h)
int_div_exact (negsuc n) g h =
    *ℤ_comm (pos g) (neg_ℤ (pos (suc n / g))) ∙ neg-*ℤ (pos (suc n / g)) (pos g) ∙ ap (λ m. neg_ℤ (pos m)) (div-mul_cancel g h)

pub not_zero : (n : ℕ) → 0 < n → ¬ (pos n ≡ pos 0)
not_zero n h e = let k : n ≡ 0 = ap unsigned_abs e in omega arith

pub zero_or_not : (z : ℤ) → (z ≡ pos 0) ⊎ ¬ (z ≡ pos 0)
zero_or_not (pos zero) = inl refl
zero_or_not (pos (suc n)) = inr (λ e. absurd (omega (arith, ints)))
zero_or_not (negsuc n) = inr (λ e. absurd (omega (arith, ints)))

pub product_not_zero : (a b : ℤ) → ¬ (a ≡ pos 0) → ¬ (b ≡ pos 0) → ¬ (a *ℤ b ≡ pos 0)
product_not_zero a b n m e = m (no_zero_divisors_ℤ a b n e)

pub one_not_zero : ¬ (pos 1 ≡ pos 0)
one_not_zero = not_zero 1 (omega arith)
