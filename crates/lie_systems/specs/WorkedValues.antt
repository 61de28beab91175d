-- Worked values. The variables with the numbers 0 and 1 are x and y.
use Rattle.std.specs.Prelude.{◌≡◌, ℕ, ◌-◌, ◌^◌, List, [], ◌∷◌, ℤ, pos, negsuc}
use Rattle.lie_math.specs.Monomial.{monomial_of}
use Rattle.lie_math.specs.LinearForm.{LinearForm, unknown_form}
use Rattle.lie_math.specs.LinearSystem.{LinearSystem}
use Rattle.lie_systems.specs.Triples.{Triple, triples, sum_of_triples}
use Rattle.lie_systems.specs.Normalised.{primitive}
use Rattle.lie_systems.specs.ValidSystems.{IsValid}
use Rattle.lie_systems.specs.Bulk.{HasHighOrder, system_triple_count}
use Rattle.lie_systems.specs.Works.{OnCoefficients, OnTerms, OnUnknowns, OnWidth, ANumber, Triples, AnUnknown, ABasis, IsMadeWithin}
use Rattle.lie_systems.specs.Works.{IsMadePast}

-- a number, the exponents of a monomial, and the unknown and the counts of a derivative
abbrev pub triple : ℤ → List (ℕ × ℕ) → ℕ → List ℕ → Triple
triple a m f J = (record { unknown = f; counts = J }, monomial_of m, a)

abbrev pub x : List (ℕ × ℕ)
x = (0, 1) ∷ []

-- 2*f1 + x*f2_x - f1 has the triples x*f2_x and f1
abbrev pub TriplesOfSum : Type 0
TriplesOfSum =
    triples (sum_of_triples (triple (pos 2) [] 1 [] ∷ triple (pos 1) x 2 (1 ∷ []) ∷ triple (negsuc 0) [] 1 [] ∷ []))
    ≡ triple (pos 1) x 2 (1 ∷ []) ∷ triple (pos 1) [] 1 [] ∷ []

-- -4*x^2*f1_x + 6*x*f2 is normalised to 2*x*f1_x - 3*f2
abbrev pub DividedEquation : Type 0
DividedEquation =
    primitive (sum_of_triples (triple (negsuc 3) ((0, 2) ∷ []) 1 (1 ∷ []) ∷ triple (pos 6) x 2 [] ∷ []))
    ≡ sum_of_triples (triple (pos 2) x 1 (1 ∷ []) ∷ triple (negsuc 2) [] 2 [] ∷ [])

-- (x - 2)*f1_y is normalised to f1_y
abbrev pub DerivativeAlone : Type 0
DerivativeAlone = primitive (sum_of_triples (triple (pos 1) x 1 (0 ∷ 1 ∷ []) ∷ triple (negsuc 1) [] 1 (0 ∷ 1 ∷ []) ∷ []))
    ≡ sum_of_triples (triple (pos 1) [] 1 (0 ∷ 1 ∷ []) ∷ [])

-- the determining equations of y_xx = 0: f1_yy, f2_xx, f2_yy - 2*f1_xy, 2*f2_xy - f1_xx
abbrev pub line_equations : List LinearForm
line_equations =
    sum_of_triples (triple (pos 1) [] 1 (0 ∷ 2 ∷ []) ∷ [])
    ∷ sum_of_triples (triple (pos 1) [] 2 (2 ∷ []) ∷ [])
    ∷ sum_of_triples (triple (pos 1) [] 2 (0 ∷ 2 ∷ []) ∷ triple (negsuc 1) [] 1 (1 ∷ 1 ∷ []) ∷ [])
    ∷ sum_of_triples (triple (pos 2) [] 2 (1 ∷ 1 ∷ []) ∷ triple (negsuc 0) [] 1 (2 ∷ []) ∷ [])
    ∷ []

abbrev pub line_system : LinearSystem
line_system = record {
  unknowns = record { number = 1; variables = 0 ∷ 1 ∷ [] } ∷ record { number = 2; variables = 0 ∷ 1 ∷ [] } ∷ [];
  equations = line_equations;
  general = unknown_form 1 ∷ unknown_form 2 ∷ [];
  next = 3;
}

abbrev pub LineSystemIsValid : Type 0
LineSystemIsValid = IsValid 2 line_system

-- a system whose next number is that of an unknown is not valid
abbrev pub NextNumberIsFree : Type 0
NextNumberIsFree = ¬ (IsValid 2 (record line_system { next = 2 }))

-- an unknown of a third variable is not one of a valid system over two
abbrev pub VariablesAreOfTheSpace : Type 0
VariablesAreOfTheSpace = ¬
    (IsValid 2 (record line_system
    { unknowns = record { number = 1; variables = 0 ∷ 1 ∷ [] } ∷ record { number = 2; variables = 0 ∷ 2 ∷ [] } ∷ [] }))

-- the derivative of f1 by x, taken n times
abbrev pub derivative_of_order : ℕ → LinearForm
derivative_of_order n = sum_of_triples (triple (pos 1) [] 1 (n ∷ []) ∷ [])

-- the order 64 is within the limits, and 65 is past them
abbrev pub OrdersUpTo64AreWithin : Type 0
OrdersUpTo64AreWithin = ¬ (HasHighOrder (derivative_of_order 64)) × HasHighOrder (derivative_of_order 65)

-- the six triples of the equations, and the two of the general forms
abbrev pub TriplesOfLineSystem : Type 0
TriplesOfLineSystem = system_triple_count line_system ≡ 8

-- the greatest of each kind is within the limits, and the next is past them
pub record LimitsAreThese : Type 0 where
  pub number : IsMadeWithin (ANumber (2 ^ 127 - 1)) × IsMadePast OnCoefficients (ANumber (2 ^ 127))
  pub triples : IsMadeWithin (Triples 1000000) × IsMadePast OnTerms (Triples 1000001)
  pub unknown : IsMadeWithin (AnUnknown 65535) × IsMadePast OnUnknowns (AnUnknown 65536)
  pub basis : IsMadeWithin (ABasis 256 1000) × IsMadePast OnWidth (ABasis 257 1000) × IsMadePast OnWidth (ABasis 256 1001)
