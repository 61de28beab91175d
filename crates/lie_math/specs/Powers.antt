-- The coefficient of a power of one variable, and degrees.
use Rattle.std.specs.Prelude.{ℕ, cond, eqb}
use Rattle.lie_math.specs.Natural.{maxima}
use Rattle.lie_math.specs.Monomial.{exponent, degree, powers}
use Rattle.lie_math.specs.Polynomial.{WholePolynomial, terms, term, over_terms, 0ᴾ}
use Rattle.lie_math.specs.FiniteSum as finite

-- the coefficient of the i-th power of v: the terms with that exponent, without v
unfoldable pub power_coefficient : ℕ → ℕ → WholePolynomial → WholePolynomial
power_coefficient v i p = over_terms (λ m a. cond (eqb (exponent m v) i) (term (finite.put powers v 0 m) a) 0ᴾ) p

-- the greatest degree of a term, and the greatest exponent of v in a term
abbrev pub total_degree : WholePolynomial → ℕ
total_degree p = finite.sum_over terms maxima (λ m a. degree m) p

abbrev pub degree_in : ℕ → WholePolynomial → ℕ
degree_in v p = finite.sum_over terms maxima (λ m a. exponent m v) p
