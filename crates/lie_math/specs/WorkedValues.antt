-- Worked values. The variables with the numbers 0 and 1 are x and u.
use Rattle.std.specs.Prelude.{◌≡◌, ℕ, List, [], ◌∷◌, map, ℤ, pos}
use Rattle.lie_math.specs.Monomial.{monomial_of, power_of}
use Rattle.lie_math.specs.Limits.{HasLowExponents}
use Rattle.lie_math.specs.Polynomial.{WholePolynomial, polynomial_of, constant, variable, ◌+ᴾ◌, ◌*ᴾ◌}
use Rattle.lie_math.specs.PartialDerivative.{partial}
use Rattle.lie_math.specs.Powers.{power_coefficient, degree_in}
use Rattle.lie_math.specs.RationalPolynomial.{IsSameRational}
use Rattle.lie_math.specs.LinearForm.{form_term, unknown_form}
use Rattle.lie_math.specs.LinearSystem.{LinearSystem, Gives}

-- the sum of terms, each a list of variables with exponents and a number
abbrev pub written : List (List (ℕ × ℕ) × ℤ) → WholePolynomial
written ts = polynomial_of (map (λ t. (monomial_of t.0, t.1)) ts)

-- (x + u)^2 is x^2 + 2*x*u + u^2
abbrev pub SquareOfSum : Type 0
SquareOfSum = (variable 0 +ᴾ variable 1) *ᴾ (variable 0 +ᴾ variable 1)
    ≡ written (((0, 2) ∷ [], pos 1) ∷ ((0, 1) ∷ (1, 1) ∷ [], pos 2) ∷ ((1, 2) ∷ [], pos 1) ∷ [])

-- 1 + x + u^2 + x*u + x^2 is printed with x^2, x*u, u^2, x, 1 in this order
abbrev pub OrderOfTerms : Type 0
OrderOfTerms =
    map (λ t. (t.0).list)
    (written (([], pos 1) ∷ ((0, 1) ∷ [], pos 1) ∷ ((1, 2) ∷ [], pos 1) ∷ ((0, 1) ∷ (1, 1) ∷ [], pos 1) ∷ (
      (0, 2) ∷ [],
      pos
          1,
    ) ∷ [])).list
    ≡ ((0, 2) ∷ []) ∷ ((0, 1) ∷ (1, 1) ∷ []) ∷ ((1, 2) ∷ []) ∷ ((0, 1) ∷ []) ∷ [] ∷ []

-- the derivative of x*u + 3*x^2 by x is u + 6*x
abbrev pub DerivativeOfSum : Type 0
DerivativeOfSum = partial 0 (written (((0, 1) ∷ (1, 1) ∷ [], pos 1) ∷ ((0, 2) ∷ [], pos 3) ∷ []))
    ≡ written (((1, 1) ∷ [], pos 1) ∷ ((0, 1) ∷ [], pos 6) ∷ [])

-- the coefficient of x in 3*x^2 + x*u + 2*x + 5 is u + 2
abbrev pub CoefficientOfX : Type 0
CoefficientOfX = power_coefficient 0 1
    (written (((0, 2) ∷ [], pos 3) ∷ ((0, 1) ∷ (1, 1) ∷ [], pos 1) ∷ ((0, 1) ∷ [], pos 2) ∷ ([], pos 5) ∷ []))
    ≡ written (((1, 1) ∷ [], pos 1) ∷ ([], pos 2) ∷ [])

-- x/2 is 2*x/4
abbrev pub HalfOfX : Type 0
HalfOfX = IsSameRational (record { over = 2; whole = variable 0 }) (record { over = 4; whole = constant (pos 2) *ᴾ variable 0 })

-- the unknown 1 of x with f1_x = 0, and the fields f1*d_x
abbrev pub constant_system : LinearSystem
constant_system = record {
  unknowns = record { number = 1; variables = 0 ∷ [] } ∷ [];
  equations = form_term (record { unknown = 1; counts = 1 ∷ [] }) (constant (pos 1)) ∷ [];
  general = unknown_form 1 ∷ [];
  next = 2;
}

-- it gives 3/2*d_x and not x*d_x
abbrev pub ConstantFieldsGiven : Type 0
ConstantFieldsGiven = Gives constant_system (record { denominator = 2; parts = constant (pos 3) ∷ [] })
    × (¬ (Gives constant_system (record { denominator = 1; parts = variable 0 ∷ [] })))

-- the degree of x*u^2 + 3*x is 1 in x and 2 in u
abbrev pub DegreeInEach : Type 0
DegreeInEach = map (λ v. degree_in v (written (((0, 1) ∷ (1, 2) ∷ [], pos 1) ∷ ((0, 1) ∷ [], pos 3) ∷ []))) (0 ∷ 1 ∷ []) ≡ 1 ∷ 2 ∷ []

-- the exponent 65,535 is within the limits, and 65,536 is past them
abbrev pub ExponentsUpTo65535AreLow : Type 0
ExponentsUpTo65535AreLow = HasLowExponents (power_of 0 65535) × (¬ (HasLowExponents (power_of 0 65536)))
