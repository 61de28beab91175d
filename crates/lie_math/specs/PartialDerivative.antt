-- The partial derivative of a polynomial.
use Rattle.std.specs.Prelude.{ℕ, ◌-◌, pos, ◌*ℤ◌}
use Rattle.lie_math.specs.Polynomial.{WholePolynomial, over_terms, term}
use Rattle.lie_math.specs.Monomial.{Monomial, exponent, powers}
use Rattle.lie_math.specs.FiniteSum as finite

-- one less of v
abbrev pub lower : ℕ → Monomial → Monomial
lower v m = finite.put powers v (exponent m v - 1) m

unfoldable pub partial : ℕ → WholePolynomial → WholePolynomial
partial v p = over_terms (λ m a. term (lower v m) (a *ℤ pos (exponent m v))) p
