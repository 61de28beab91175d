-- Worked values. The variables with the numbers 0 and 1 are x and y; f1 depends on x, and f2 on y.
use Rattle.std.specs.Prelude.{◌≡◌, List, [], ◌∷◌, pos, negsuc}
use Rattle.lie_math.specs.LinearForm.{unknown_form}
use Rattle.lie_math.specs.LinearSystem.{Unknown, LinearSystem}
use Rattle.lie_systems.specs.Triples.{sum_of_triples}
use Rattle.lie_systems.specs.WorkedValues.{triple, x}
use Rattle.lie_steps.specs.Absent.{low_powers}
use Rattle.lie_steps.specs.Derivatives.{derivative}
use Rattle.lie_steps.specs.Integrate.{integral}
use Rattle.lie_steps.specs.NormalForm.{combined, combined_bulk}
use Rattle.lie_steps.specs.Runs.{Ends}

abbrev pub functions : List Unknown
functions = record { number = 1; variables = 0 ∷ [] } ∷ record { number = 2; variables = 1 ∷ [] } ∷ []

-- where f_xxy = 0, f is a sum of functions without x times 1 and x, and one without y
abbrev pub LowPowersOfCounts : Type 0
LowPowersOfCounts = low_powers (2 ∷ 1 ∷ []) ≡ (0, 0) ∷ (0, 1) ∷ (1, 0) ∷ []

-- the derivative of x*f1_x + x*f2 by x is x*f1_xx + f1_x + f2
abbrev pub DerivativeOfOwn : Type 0
DerivativeOfOwn =
    derivative functions 0 (sum_of_triples (triple (pos 1) x 1 (1 ∷ []) ∷ triple (pos 1) x 2 [] ∷ []))
    ≡ sum_of_triples (triple (pos 1) x 1 (2 ∷ []) ∷ triple (pos 1) [] 1 (1 ∷ []) ∷ triple (pos 1) [] 2 [] ∷ [])

-- 2*f1_xx + 6*x*f2 = 0 gives 2*f1 as -x^3*f2 and low powers
abbrev pub IntegralOfForm : Type 0
IntegralOfForm = integral (pos 2) 0 2 2 (sum_of_triples (triple (pos 6) x 2 [] ∷ []))
    ≡ sum_of_triples (triple (negsuc 0) ((0, 3) ∷ []) 2 [] ∷ [])

-- 2*x*f1_x + f2 and 4*f1_x - y*f2, combined at f1_x, are x*y*f2 + 2*f2
abbrev pub CombinedForms : Type 0
CombinedForms =
    combined (record { unknown = 1; counts = 1 ∷ [] }) (sum_of_triples (triple (pos 2) x 1 (1 ∷ []) ∷ triple (pos 1) [] 2 [] ∷ []))
    (sum_of_triples (triple (pos 4) [] 1 (1 ∷ []) ∷ triple (negsuc 0) ((1, 1) ∷ []) 2 [] ∷ []))
    ≡ sum_of_triples (triple (pos 1) ((0, 1) ∷ (1, 1) ∷ []) 2 [] ∷ triple (pos 2) [] 2 [] ∷ [])

-- their bulk is 8*x*f1_x + x*y*f2 + 2*f2
abbrev pub BulkOfCombination : Type 0
BulkOfCombination =
    combined_bulk (record { unknown = 1; counts = 1 ∷ [] }) (sum_of_triples (triple (pos 2) x 1 (1 ∷ []) ∷ triple (pos 1) [] 2 [] ∷ []))
    (sum_of_triples (triple (pos 4) [] 1 (1 ∷ []) ∷ triple (negsuc 0) ((1, 1) ∷ []) 2 [] ∷ []))
    ≡ sum_of_triples (triple (pos 8) x 1 (1 ∷ []) ∷ triple (pos 1) ((0, 1) ∷ (1, 1) ∷ []) 2 [] ∷ triple (pos 2) [] 2 [] ∷ [])

-- ---- a run
-- f1_x = 0, for the fields f1*d_x
abbrev pub constant_equation : LinearSystem
constant_equation = record {
  unknowns = record { number = 1; variables = 0 ∷ [] } ∷ [];
  equations = sum_of_triples (triple (pos 1) [] 1 (1 ∷ []) ∷ []) ∷ [];
  general = unknown_form 1 ∷ [];
  next = 2;
}

-- the fields f2*d_x, where f2 is a constant
abbrev pub constant_fields : LinearSystem
constant_fields = record { unknowns = record { number = 2; variables = [] } ∷ []; equations = []; general = unknown_form 2 ∷ []; next = 3 }

-- one step leads from the equation to its fields, and there the run ends
abbrev pub RunOfConstants : Type 0
RunOfConstants = Ends constant_equation 1 constant_fields
