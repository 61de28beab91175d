-- Worked values. The variables with the numbers 0 and 1 are x and u.
use Rattle.std.specs.Prelude.{◌≡◌, [], ◌∷◌, map, pos, negsuc}
use Rattle.lie_math.specs.LinearForm.{no_form, form_term, ◌+ᶠ◌}
use Rattle.lie_math.specs.Monomial.{unit, single, power_of}
use Rattle.lie_math.specs.Polynomial.{0ᴾ, constant, variable, ◌*ᴾ◌}
use Rattle.lie_spans.specs.Bulks.{basis_bulks, kernel_bulks}
use Rattle.lie_spans.specs.ClosedSystems.{closed_system}
use Rattle.lie_spans.specs.Conditions.{condition_rows}
use Rattle.lie_spans.specs.Coordinates.{IsSumOf}
use Rattle.lie_spans.specs.Elimination.{basis_of}
use Rattle.lie_spans.specs.Fields.{column_before}
use Rattle.lie_spans.specs.FieldRows.{field_of_row}
use Rattle.lie_spans.specs.Rows.{entry}
use Rattle.lie_spans.specs.Solutions.{kernel_of}
use Rattle.lie_spans.specs.Spans.{EveryTwo}

-- the rows (2, 4) and (1, 3) have the reduced basis (1, 0), (0, 1)
abbrev pub TwoRowsSpanAll : Type 0
TwoRowsSpanAll = basis_of 2 ((pos 2 ∷ pos 4 ∷ []) ∷ (pos 1 ∷ pos 3 ∷ []) ∷ []) ≡ (pos 1 ∷ pos 0 ∷ []) ∷ (pos 0 ∷ pos 1 ∷ []) ∷ []

-- the work is (1, 3) less (1, 2), with 1 + 1 and 3 + 2, and then (1, 2) less 2*(0, 1), with 1 and 2 + 2
abbrev pub BulksOfTwoRows : Type 0
BulksOfTwoRows = basis_bulks 2 ((pos 2 ∷ pos 4 ∷ []) ∷ (pos 1 ∷ pos 3 ∷ []) ∷ []) ≡ 2 ∷ 5 ∷ 1 ∷ 4 ∷ []

-- the rows (-2, -4) and (3, 6) have the reduced basis (1, 2)
abbrev pub OneDirection : Type 0
OneDirection = basis_of 2 ((negsuc 1 ∷ negsuc 3 ∷ []) ∷ (pos 3 ∷ pos 6 ∷ []) ∷ []) ≡ (pos 1 ∷ pos 2 ∷ []) ∷ []

-- the row (1, 2, 0) takes the span of (2, -1, 0) and (0, 0, 1) to 0
abbrev pub KernelOfOneRow : Type 0
KernelOfOneRow = kernel_of 3 ((pos 1 ∷ pos 2 ∷ pos 0 ∷ []) ∷ []) ≡ (pos 2 ∷ negsuc 0 ∷ pos 0 ∷ []) ∷ (pos 0 ∷ pos 0 ∷ pos 1 ∷ []) ∷ []

-- the row (0, 1, 1) is made 2*(0, 1, 1) less (1, 2, 0), with 1, 2 + 2 and 2, and the solution is (2, -1, 1)
abbrev pub BulksOfKernel : Type 0
BulksOfKernel = kernel_bulks 3 ((pos 1 ∷ pos 2 ∷ pos 0 ∷ []) ∷ (pos 0 ∷ pos 1 ∷ pos 1 ∷ []) ∷ []) ≡ 1 ∷ 4 ∷ 2 ∷ 2 ∷ 1 ∷ 1 ∷ []

-- the row (2, 2) is taken to 0 by (2, -2) before that is divided by 2
abbrev pub BulksOfSolution : Type 0
BulksOfSolution = kernel_bulks 2 ((pos 2 ∷ pos 2 ∷ []) ∷ []) ≡ 2 ∷ 2 ∷ []

-- the rows (1, 4, 0) and (1, 0, 6) have the least solution (12, -3, -2)
abbrev pub LeastSolution : Type 0
LeastSolution = kernel_bulks 3 ((pos 1 ∷ pos 4 ∷ pos 0 ∷ []) ∷ (pos 1 ∷ pos 0 ∷ pos 6 ∷ []) ∷ []) ≡ 12 ∷ 3 ∷ 2 ∷ []

-- (1, 1, 1) is the half of (2, 0, 1) and the half of (0, 2, 1)
abbrev pub HalfOfEach : Type 0
HalfOfEach = IsSumOf entry ((pos 2 ∷ pos 0 ∷ pos 1 ∷ []) ∷ (pos 0 ∷ pos 2 ∷ pos 1 ∷ []) ∷ []) (λ i. pos 1) (λ i. 2)
    (entry (pos 1 ∷ pos 1 ∷ pos 1 ∷ []))

-- the columns 1, x, u, x^2 of the first component stand in this order, and before those of the second
abbrev pub ColumnsInOrder : Type 0
ColumnsInOrder = EveryTwo column_before ((0, unit) ∷ (0, single 0) ∷ (0, single 1) ∷ (0, power_of 0 2) ∷ (1, unit) ∷ [])

-- the fields 2*d_x and 3*d_x + u*d_u have the reduced basis d_x, u*d_u
abbrev pub TwoFieldsSpan : Type 0
TwoFieldsSpan =
    map (field_of_row 2 ((0, unit) ∷ (1, single 1) ∷ [])) (basis_of 2 ((pos 2 ∷ pos 0 ∷ []) ∷ (pos 3 ∷ pos 1 ∷ []) ∷ []))
    ≡ record { denominator = 1; parts = constant (pos 1) ∷ 0ᴾ ∷ [] } ∷ record { denominator = 1; parts = 0ᴾ ∷ variable 1 ∷ [] } ∷ []

-- the equation f1_x = u*f2 says of a*x*d_x + b*d_u that a is 0, at the monomial 1, and that -b is 0, at u
abbrev pub RowsOfCondition : Type 0
RowsOfCondition =
    condition_rows ((0, single 0) ∷ (1, unit) ∷ [])
    ((
      form_term (record { unknown = 1; counts = 1 ∷ [] }) (constant (pos 1))
          +ᶠ form_term (record { unknown = 2; counts = [] }) (constant (negsuc 0) *ᴾ variable 1),
      unit ∷ single 1 ∷ [],
    ) ∷ [])
    ≡ (pos 1 ∷ pos 0 ∷ []) ∷ (pos 0 ∷ negsuc 0 ∷ []) ∷ []

-- the closed system of u*d_x has the constant f1 and the components u*f1 and 0
abbrev pub ClosedSystemOfOne : Type 0
ClosedSystemOfOne =
    closed_system 2 (record { denominator = 1; parts = variable 1 ∷ 0ᴾ ∷ [] } ∷ [])
    ≡ record {
      unknowns = record { number = 1; variables = [] } ∷ [];
      equations = [];
      general = form_term (record { unknown = 1; counts = [] }) (variable 1) ∷ no_form ∷ [];
      next = 2;
    }
