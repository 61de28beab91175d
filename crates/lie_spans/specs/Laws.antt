-- The statements of laws that are longer than a line.
use Rattle.std.specs.Prelude.{◌≡◌, ℕ, ◌<◌, ◌↔◌, List, ℤ, length, map}
use Rattle.std.specs.List.{AllByRecursion as Every}
use Rattle.std.specs.Cmp.{IsTotalOrder}
use Rattle.std.specs.FinMap.{IsAntisymmetric}
use Rattle.lie_math.specs.LinearForm.{LinearForm, apply}
use Rattle.lie_math.specs.LinearSystem.{LinearSystem, Gives}
use Rattle.lie_math.specs.Monomial.{Monomial}
use Rattle.lie_math.specs.Polynomial.{0ᴾ}
use Rattle.lie_math.specs.VectorField.{VectorField}
use Rattle.lie_spans.specs.Conditions.{unknowns_of, condition_rows, HasAllMonomials, SolvesConditions}
use Rattle.lie_spans.specs.ClosedSystems.{closed_system}
use Rattle.lie_spans.specs.ConstantSystems.{IsConstantSystem, unknown_fields}
use Rattle.lie_spans.specs.Openings.{IsOpening, HasDegreeAtMost, AreDegreeColumns}
use Rattle.lie_spans.specs.Spans.{IsSpanned}
use Rattle.lie_spans.specs.Reduced.{IsReduced}
use Rattle.lie_spans.specs.Rows.{Row, entry, HaveLength, IsReducedBasis}
use Rattle.lie_spans.specs.Elimination.{basis_of}
use Rattle.lie_spans.specs.Kernel.{IsKernel}
use Rattle.lie_spans.specs.Solutions.{kernel_of}
use Rattle.lie_spans.specs.Coordinates.{IsSumOf, AreAtPivots, IsLowest}
use Rattle.lie_spans.specs.FieldRows.{AreColumns, field_of_row, row_of_field, IsWithinColumns}
use Rattle.lie_spans.specs.Fields.{Column, column_cmp, column_before, field_entry, IsCombination, IsFieldIn, IsFieldBasis}

-- ---- rows
-- two reduced bases of what rows span are equal
abbrev pub ReducedBasisIsUnique : Type 0
ReducedBasisIsUnique = (n : ℕ) (rows rs ss : List Row)
    → IsReducedBasis n (λ w. IsSpanned entry rows (entry w)) rs → IsReducedBasis n (λ w. IsSpanned entry rows (entry w)) ss → rs ≡ ss

-- the elimination of rows with n columns gives the reduced basis of what they span
abbrev pub EliminationGivesBasis : Type 0
EliminationGivesBasis = (n : ℕ) (rows : List Row) → HaveLength n rows
    → IsReducedBasis n (λ w. IsSpanned entry rows (entry w)) (basis_of n rows)

-- the solutions are the reduced basis of what all rows take to 0
abbrev pub SolutionsGiveKernel : Type 0
SolutionsGiveKernel = (n : ℕ) (rows : List Row) → HaveLength n rows
    → IsReducedBasis n (λ w. IsKernel n rows (entry w)) (kernel_of n rows)

-- what rows take to 0 is taken to 0 by all that they span
abbrev pub KernelIsOfSpan : Type 0
KernelIsOfSpan = (n : ℕ) (rs ss : List Row) (w : ℕ → ℤ) → Every (λ r. IsSpanned entry rs (entry r)) ss → IsKernel n rs w → IsKernel n ss w

-- ---- fields
-- the order of columns is total, and two columns tie only where they are equal
abbrev pub ColumnOrderIsTotal : Type 0
ColumnOrderIsTotal = IsTotalOrder column_cmp × IsAntisymmetric column_cmp

-- a multiple of a field is a combination exactly if its entries are spanned
abbrev pub CombinationIsSpan : Type 0
CombinationIsSpan = (Vs : List VectorField) (W : VectorField) → 0 < W.denominator
    → IsCombination Vs W ↔ IsSpanned field_entry Vs (field_entry W)

-- two reduced bases of the combinations of fields are equal
abbrev pub FieldBasisIsUnique : Type 0
FieldBasisIsUnique = (n : ℕ) (Us Vs Ws : List VectorField)
    → IsFieldBasis n (IsCombination Us) Vs → IsFieldBasis n (IsCombination Us) Ws → Vs ≡ Ws

-- the elimination of the rows of fields gives the reduced basis of their combinations
abbrev pub EliminationGivesFieldBasis : Type 0
EliminationGivesFieldBasis = (n : ℕ) (ks : List Column) → AreColumns n ks → (Us : List VectorField) → Every (IsWithinColumns ks) Us
    → IsFieldBasis n (IsCombination Us) (map (field_of_row n ks) (basis_of (length ks) (map (row_of_field ks) Us)))

-- the solutions are the reduced basis of the fields that are 0 in other columns, and whose rows are taken to 0
abbrev pub SolutionsGiveFields : Type 0
SolutionsGiveFields = (n : ℕ) (ks : List Column) → AreColumns n ks → (rows : List Row) → HaveLength (length ks) rows
    → IsFieldBasis n (λ W. IsWithinColumns ks W × IsKernel (length ks) rows (entry (row_of_field ks W)))
    (map (field_of_row n ks) (kernel_of (length ks) rows))

-- ---- coordinates
-- a combination of a reduced list is the sum of its vectors, each times a fraction, exactly if the fractions are those at the pivots
abbrev pub CoordinatesAreAtPivots : Type 0
CoordinatesAreAtPivots = (Vs : List VectorField) → IsReduced field_entry column_before Vs
    → (numerator : ℕ → ℤ) (denominator : ℕ → ℕ) (W : VectorField) → IsSpanned field_entry Vs (field_entry W)
    → IsSumOf field_entry Vs numerator denominator (field_entry W)
    ↔ AreAtPivots field_entry column_before Vs numerator denominator (field_entry W)

-- the fractions in lowest terms are one of each
abbrev pub CoordinatesAreUnique : Type 0
CoordinatesAreUnique = (Vs : List VectorField) → IsReduced field_entry column_before Vs → (a b : ℕ → ℤ) (d e : ℕ → ℕ) (W : VectorField)
    → IsSumOf field_entry Vs a d (field_entry W) → IsSumOf field_entry Vs b e (field_entry W)
    → (i : ℕ) → i < length Vs → IsLowest (a i) (d i) → IsLowest (b i) (e i) → (a i ≡ b i) × (d i ≡ e i)

-- ---- conditions
-- the solutions of the rows of equations are the reduced basis of the fields that are 0 outside the columns and solve the equations
abbrev pub SolutionsGiveSolvingFields : Type 0
SolutionsGiveSolvingFields = (n : ℕ) (ks : List Column) → AreColumns n ks
    → (cs : List (LinearForm × List Monomial)) → Every (HasAllMonomials ks) cs
    → IsFieldBasis n (λ W. IsWithinColumns ks W × SolvesConditions cs W)
    (map (field_of_row n ks) (kernel_of (length ks) (condition_rows ks cs)))

-- a system for the components themselves gives a field exactly if its components solve the equations
abbrev pub OpeningGivesSolutions : Type 0
OpeningGivesSolutions = (n : ℕ) (S : LinearSystem) → IsOpening n S → (W : VectorField) → IsFieldIn n W
    → Gives S W ↔ Every (λ E. apply (unknowns_of W) E ≡ 0ᴾ) S.equations

-- a field is 0 outside the columns up to a degree exactly if it has no term above that degree
abbrev pub DegreeColumnsBoundDegree : Type 0
DegreeColumnsBoundDegree = (n d : ℕ) (ks : List Column) → AreDegreeColumns n d ks → (W : VectorField) → IsFieldIn n W
    → IsWithinColumns ks W ↔ HasDegreeAtMost d W

-- the fields that such a system gives and that have no term above a degree: their reduced basis
abbrev pub SolutionsGiveDegreeBasis : Type 0
SolutionsGiveDegreeBasis = (n d : ℕ) (S : LinearSystem) → IsOpening n S → (ks : List Column) → AreDegreeColumns n d ks
    → (cs : List (LinearForm × List Monomial)) → map (λ c. c.0) cs ≡ S.equations → Every (HasAllMonomials ks) cs
    → IsFieldBasis n (λ W. Gives S W × HasDegreeAtMost d W) (map (field_of_row n ks) (kernel_of (length ks) (condition_rows ks cs)))

-- ---- systems of constants
-- a system without equations whose unknowns are constants gives the combinations of the fields of its unknowns
abbrev pub ConstantSystemGivesCombinations : Type 0
ConstantSystemGivesCombinations = (S : LinearSystem) → IsConstantSystem S → (W : VectorField)
    → Gives S W ↔ IsCombination (unknown_fields S) W

-- the elimination of their rows gives the reduced basis of the fields that the system gives
abbrev pub EliminationGivesSystemBasis : Type 0
EliminationGivesSystemBasis = (S : LinearSystem) → IsConstantSystem S → (n : ℕ) (ks : List Column) → AreColumns n ks
    → Every (IsWithinColumns ks) (unknown_fields S)
    → IsFieldBasis n (Gives S) (map (field_of_row n ks) (basis_of (length ks) (map (row_of_field ks) (unknown_fields S))))

-- the closed system of fields gives their combinations
abbrev pub ClosedSystemGivesCombinations : Type 0
ClosedSystemGivesCombinations = (n : ℕ) (Vs : List VectorField) → Every (IsFieldIn n) Vs → (W : VectorField) → IsFieldIn n W
    → Gives (closed_system n Vs) W ↔ IsCombination Vs W
