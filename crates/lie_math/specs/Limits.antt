-- The limits of the work: how wide a coefficient, how high an exponent and how many terms a polynomial may have.
use Rattle.std.specs.Prelude.{◌≡◌, ℕ, ◌<◌, ◌≤◌, ◌^◌, List, map, length, ℤ, pos, unsigned_abs}
use Rattle.lie_math.specs.Monomial.{Monomial, exponent}
use Rattle.lie_math.specs.Polynomial.{WholePolynomial, coefficient, polynomial_of}

-- the least number that is too wide: 2^127 - 1 is the greatest that fits
abbrev pub number_limit : ℕ
number_limit = 2 ^ 127

abbrev pub greatest_exponent : ℕ
greatest_exponent = 65535

abbrev pub greatest_term_count : ℕ
greatest_term_count = 1000000

-- at most 2^127 - 1 in absolute value
abbrev pub FitsNumber : ℤ → Type 0
FitsNumber z = unsigned_abs z < number_limit

-- no exponent is past the greatest
abbrev pub HasLowExponents : Monomial → Type 0
HasLowExponents m = (v : ℕ) → exponent m v ≤ greatest_exponent

-- ---- within all three limits
pub record IsWithinLimits (p : WholePolynomial) : Type 0 where
  pub coefficients : (m : Monomial) → FitsNumber (coefficient p m)
  pub exponents : (m : Monomial) → ¬ (coefficient p m ≡ pos 0) → HasLowExponents m
  pub terms : length p.list ≤ greatest_term_count

-- ---- past a limit
-- some coefficient is past 2^127 - 1 in absolute value
abbrev pub HasWideCoefficient : WholePolynomial → Type 0
HasWideCoefficient p = (m : Monomial) × (number_limit ≤ unsigned_abs (coefficient p m))

-- some monomial of the polynomial has an exponent past the greatest
abbrev pub HasHighExponent : WholePolynomial → Type 0
HasHighExponent p = (m : Monomial) × (¬ (coefficient p m ≡ pos 0)) × ((v : ℕ) × (greatest_exponent < exponent m v))

-- there are too many terms
abbrev pub HasManyTerms : WholePolynomial → Type 0
HasManyTerms p = greatest_term_count < length p.list

-- ---- absolute values
-- the terms with the absolute values of their coefficients
abbrev pub absolutes : List (Monomial × ℤ) → List (Monomial × ℤ)
absolutes es = map (λ e. (e.0, pos (unsigned_abs e.1))) es

-- the polynomial with the absolute values of its coefficients
unfoldable pub absolute : WholePolynomial → WholePolynomial
absolute p = polynomial_of (absolutes p.list)
