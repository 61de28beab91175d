-- Polynomials in some variables alone.
use Rattle.std.specs.Prelude.{◌≡◌, ℕ, Bool, false, pos}
use Rattle.lie_math.specs.Monomial.{Monomial, exponent}
use Rattle.lie_math.specs.Polynomial.{WholePolynomial, coefficient}

-- no term of p has the variable v
abbrev pub FreeOf : ℕ → WholePolynomial → Type 0
FreeOf v p = (m : Monomial) → ¬ (coefficient p m ≡ pos 0) → exponent m v ≡ 0

-- p is a polynomial in the variables of S alone
abbrev pub IsIn : (ℕ → Bool) → WholePolynomial → Type 0
IsIn S p = (v : ℕ) → S v ≡ false → FreeOf v p
