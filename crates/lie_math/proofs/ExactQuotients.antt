-- Exact quotients of integers: what is divided is back when it is multiplied, and a quotient is no greater.
use Rattle.std.specs.Prelude.{◌≡◌, ℕ, zero, suc, ◌+◌, ◌*◌, ◌<◌, ◌^◌, ℤ, pos, negsuc, ◌*ℤ◌, unsigned_abs, int_div}
use Rattle.std.proofs.Common.{refl, sym, ap, ap₂, ◌∙◌, arith}
use Prim.Native.Nat.{◌∣◌}
use borrow.Author.Differences.{ints}
use Rattle.std.proofs.lemmas.Int.{unsigned_abs-mul}
use Rattle.lie_math.specs.Canonical.{middle}
use Rattle.lie_math.specs.Evaluation.{factors}
use Rattle.lie_math.specs.Integer.{*ℤ-idl, integer_algebra}
use Rattle.lie_math.specs.Limits.{FitsNumber}
use Rattle.lie_math.proofs.Integer.{int_div_exact, unsigned_abs_zero}

-- a sign s of which the square is 1, taken twice
pub number_back : (s : ℤ) (g : ℕ) (x : ℤ) → s *ℤ s ≡ pos 1 → g ∣ unsigned_abs x → (s *ℤ pos g) *ℤ (s *ℤ int_div x (pos g)) ≡ x
number_back s g x e h = middle (factors integer_algebra) s (pos g) s (int_div x (pos g)) ∙ ap₂ ◌*ℤ◌ e (int_div_exact x g h) ∙ *ℤ-idl x

quotient_turned : (x : ℤ) (k : ℕ) → negsuc 0 *ℤ int_div x (pos (suc k)) ≡ int_div x (negsuc k)
quotient_turned (pos n) k = omega (arith, ints)
quotient_turned (negsuc n) k = omega (arith, ints)

turned_divisor : (k : ℕ) → negsuc 0 *ℤ pos (suc k) ≡ negsuc k
turned_divisor k = omega (arith, ints)

-- the divisor times the quotient
pub quotient_back : (x d q : ℤ) → unsigned_abs d ∣ unsigned_abs x → q ≡ int_div x d → d *ℤ q ≡ x
quotient_back x (pos g) q h e = ap (λ z. pos g *ℤ z) e ∙ int_div_exact x g h
quotient_back x (negsuc k) q h e = ap (λ z. negsuc k *ℤ z) e ∙ ap₂ ◌*ℤ◌ (sym (turned_divisor k)) (sym (quotient_turned x k)) ∙ number_back (negsuc 0) (suc k) x refl h

-- a quotient is no greater
pub quotient_fits : (x d : ℤ) → ¬ (d ≡ pos 0) → FitsNumber x → unsigned_abs d ∣ unsigned_abs x → FitsNumber (int_div x d)
quotient_fits x d n h v = go (unsigned_abs d) (unsigned_abs (int_div x d)) (sym (unsigned_abs-mul d (int_div x d)) ∙ ap unsigned_abs (quotient_back x d (int_div x d) v refl)) (λ e. n (unsigned_abs_zero d e))
  where
    go : (a b : ℕ) → a * b ≡ unsigned_abs x → ¬ (a ≡ 0) → b < 2 ^ 127
    go zero b e n = absurd (n refl)
    go (suc a) b e n = let k : b + a * b ≡ unsigned_abs x = more a b ∙ e in let l : unsigned_abs x < 2 ^ 127 = h in omega arith
      where
        more : (a b : ℕ) → b + a * b ≡ suc a * b
        more a b = omega arith
