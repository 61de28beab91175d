-- Terms whose numbers stay small however often they are derived.
use Rattle.std.specs.Prelude.{◌≡◌, ℕ, zero, suc, ◌*◌, ◌≤◌, pos}
use Rattle.lie_math.specs.Monomial.{Monomial, degree}
use Rattle.lie_math.specs.Polynomial.{WholePolynomial, term}

-- 8 times itself, so often
abbrev pub power_of_eight : ℕ → ℕ
power_of_eight zero = 1
power_of_eight (suc n) = 8 * power_of_eight n

-- one term of degree n, at most 8, with a number that is at most 8 to the power 8 - n
pub record IsSmall (p : WholePolynomial) : Type 0 where
  pub mono : Monomial
  pub number : ℕ
  pub is : p ≡ term mono (pos number)
  pub low : degree mono ≤ 8
  pub limit : number * power_of_eight (degree mono) ≤ 16777216
