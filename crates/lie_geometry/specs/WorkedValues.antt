-- Worked values. For p = q = 1 the variables with the numbers 0, 1, 2, 3 are x, u, u_x, u_xx.
use Rattle.std.specs.Prelude.{◌≡◌, ℕ, List, [], ◌∷◌, map, ℤ, pos, negsuc}
use Rattle.lie_math.specs.Counts.{Derivative}
use Rattle.lie_math.specs.Monomial.{unit, monomial_of}
use Rattle.lie_math.specs.Polynomial.{WholePolynomial, polynomial_of, 0ᴾ, ◌+ᴾ◌, ◌*ᴾ◌, constant, variable, negᴾ}
use Rattle.lie_math.specs.VectorField.{VectorField, component}
use Rattle.lie_geometry.specs.Coordinates.{Space, jet, number}
use Rattle.lie_geometry.specs.DeterminingEquations.{determining_equation, determining_system}
use Rattle.lie_geometry.specs.FieldNorms.{field_norm_bound}
use Rattle.lie_geometry.specs.FirstOrder.{one_of_each, first_order_equation}
use Rattle.lie_geometry.specs.Invariance.{IsInvariant}
use Rattle.lie_geometry.specs.InvarianceLaws.{LiesInIdeal}
use Rattle.lie_geometry.specs.Norms.{form_norm}
use Rattle.lie_geometry.specs.Prolongation.{total_derivative, prolonged_coefficient}
use Rattle.lie_geometry.specs.SolvedEquations.{SolvedEquation, reduced}
use Rattle.lie_geometry.specs.SymbolicNorms.{norm_bound}
use Rattle.lie_geometry.specs.SymbolicProlongation.{symbolic_coefficient}

-- the sum of terms, each a list of variables with exponents and a number
abbrev pub written : List (List (ℕ × ℕ) × ℤ) → WholePolynomial
written ts = polynomial_of (map (λ t. (monomial_of t.0, t.1)) ts)

abbrev pub two_and_one : Space
two_and_one = record { p = 2; q = 1 }

-- u, u_x, u_xx and the derivative of order 12; and with two independent variables u_x, u_y, u_xx, u_xy, u_yy
abbrev pub JetNumbers : Type 0
JetNumbers =
    (map (number one_of_each) (jet 0 (0 ∷ []) ∷ jet 0 (1 ∷ []) ∷ jet 0 (2 ∷ []) ∷ jet 0 (12 ∷ []) ∷ []) ≡ 1 ∷ 2 ∷ 3 ∷ 13 ∷ [])
    × (map (number two_and_one)
    (jet 0 (1 ∷ 0 ∷ []) ∷ jet 0 (0 ∷ 1 ∷ []) ∷ jet 0 (2 ∷ 0 ∷ []) ∷ jet 0 (1 ∷ 1 ∷ []) ∷ jet 0 (0 ∷ 2 ∷ []) ∷ [])
    ≡ 3 ∷ 4 ∷ 5 ∷ 6 ∷ 7 ∷ [])

-- the total derivative of x*u_x^2 is 2*x*u_x*u_xx + u_x^2
abbrev pub TotalOfProduct : Type 0
TotalOfProduct =
    total_derivative one_of_each 0 (written (((0, 1) ∷ (2, 2) ∷ [], pos 1) ∷ []))
    ≡ written (((0, 1) ∷ (2, 1) ∷ (3, 1) ∷ [], pos 2) ∷ ((2, 2) ∷ [], pos 1) ∷ [])

-- the field a*d_x + b*d_u
abbrev pub plane_field : WholePolynomial → WholePolynomial → VectorField
plane_field a b = record { denominator = 1; parts = a ∷ b ∷ [] }

-- the coefficients of u*d_x at u, u_x and u_xx are 0, -u_x^2 and -3*u_x*u_xx
abbrev pub FieldProlonged : Type 0
FieldProlonged =
    map (prolonged_coefficient one_of_each (component (plane_field (variable 1) 0ᴾ)) 0) ([] ∷ (0 ∷ []) ∷ (0 ∷ 0 ∷ []) ∷ [])
    ≡ 0ᴾ ∷ written (((2, 2) ∷ [], negsuc 0) ∷ []) ∷ written (((2, 1) ∷ (3, 1) ∷ [], negsuc 2) ∷ []) ∷ []

-- u_x = u
abbrev pub growth : List SolvedEquation
growth = first_order_equation (variable 1) ∷ []

-- it is kept by d_x and by u*d_u, and not by d_u
abbrev pub GrowthInvariant : Type 0
GrowthInvariant =
    IsInvariant one_of_each growth (plane_field (constant (pos 1)) 0ᴾ) × IsInvariant one_of_each growth (plane_field 0ᴾ (variable 1))
    × (¬ (IsInvariant one_of_each growth (plane_field 0ᴾ (constant (pos 1)))))

-- 2 times the coordinate with the number w is u
abbrev pub twice_is_u : ℕ → SolvedEquation
twice_is_u w = record { lead = w; factor = pos 2; right = variable 1 }

-- 2*u_x = u and 2*u_xx = u
abbrev pub halves : List SolvedEquation
halves = twice_is_u 2 ∷ twice_is_u 3 ∷ []

-- u_x - u_xx
abbrev pub halves_difference : WholePolynomial
halves_difference = variable 2 +ᴾ negᴾ (variable 3)

-- it is reduced to 0, and does not lie in the ideal, as 2 times it does
abbrev pub HalvesReduced : Type 0
HalvesReduced =
    (reduced halves halves_difference ≡ 0ᴾ) × (¬ (LiesInIdeal halves halves_difference))
    × LiesInIdeal halves (constant (pos 2) *ᴾ halves_difference)

-- a derivative of the unknown n, with its coefficient
abbrev pub entry : ℕ → List ℕ → List (List (ℕ × ℕ) × ℤ) → Derivative × WholePolynomial
entry n J ts = (record { unknown = n; counts = J }, written ts)

-- the symbolic coefficient at u_x: f2_x + u_x*f2_u - u_x*f1_x - u_x^2*f1_u
abbrev pub SymbolicProlonged : Type 0
SymbolicProlonged =
    (symbolic_coefficient one_of_each 0 (0 ∷ [])).list
    ≡ entry 2 (1 ∷ []) (([], pos 1) ∷ []) ∷ entry 2 (0 ∷ 1 ∷ []) (((2, 1) ∷ [], pos 1) ∷ [])
    ∷ entry 1 (1 ∷ []) (((2, 1) ∷ [], negsuc 0) ∷ []) ∷ entry 1 (0 ∷ 1 ∷ []) (((2, 2) ∷ [], negsuc 0) ∷ []) ∷ []

-- the determining equation of u_x = u: f2_x + u*f2_u - u*f1_x - u^2*f1_u - f2 = 0
abbrev pub GrowthDetermined : Type 0
GrowthDetermined =
    (determining_equation one_of_each growth (first_order_equation (variable 1)) unit).list
    ≡ entry 2 (1 ∷ []) (([], pos 1) ∷ []) ∷ entry 2 (0 ∷ 1 ∷ []) (((1, 1) ∷ [], pos 1) ∷ [])
    ∷ entry 1 (1 ∷ []) (((1, 1) ∷ [], negsuc 0) ∷ []) ∷ entry 1 (0 ∷ 1 ∷ []) (((1, 2) ∷ [], negsuc 0) ∷ [])
    ∷ entry 2 [] (([], negsuc 0) ∷ []) ∷ []

-- for p = q = 1 the unknowns of the determining system are 1 and 2, of x and u each, and the next number is 3
abbrev pub PlaneUnknowns : Type 0
PlaneUnknowns =
    ((determining_system one_of_each []).unknowns
    ≡ record { number = 1; variables = 0 ∷ 1 ∷ [] } ∷ record { number = 2; variables = 0 ∷ 1 ∷ [] } ∷ [])
    × ((determining_system one_of_each []).next ≡ 3)

abbrev pub space_of : ℕ → ℕ → Space
space_of p q = record { p = p; q = q }

-- the bounds of the norms: for p = q = 1 at the orders 0 to 4, and at order 6 for four independent variables and one, and then four,
-- dependent ones; for p = q = 1 and a field with norms and degrees up to 1 at the orders 0 to 2
-- for p = q = 1 the symbolic coefficients at u_x and at u_xx have the norms 4 and 14
abbrev pub NormBounds : Type 0
NormBounds =
    (map (norm_bound one_of_each) (0 ∷ 1 ∷ 2 ∷ 3 ∷ 4 ∷ []) ≡ 1 ∷ 4 ∷ 14 ∷ 51 ∷ 202 ∷ [])
    × (norm_bound (space_of 4 1) 6 ≡ 13925)
    × (norm_bound (space_of 4 4) 6 ≡ 797081)
    × (map (field_norm_bound one_of_each 1 1) (0 ∷ 1 ∷ 2 ∷ []) ≡ 1 ∷ 3 ∷ 7 ∷ [])
    × (form_norm (symbolic_coefficient one_of_each 0 (0 ∷ [])) ≡ 4)
    × (form_norm (symbolic_coefficient one_of_each 0 (0 ∷ 0 ∷ [])) ≡ 14)
