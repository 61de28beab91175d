-- The statements of laws that are longer than a line.
use Rattle.std.specs.Prelude.{◌≡◌, ◌+◌, ◌↔◌, ◌⊎◌, List}
use Rattle.lie_math.specs.VectorField.{VectorField}
use Rattle.lie_geometry.specs.CoordinateLaws.{IsSpace}
use Rattle.lie_geometry.specs.Coordinates.{Space}
use Rattle.lie_geometry.specs.Invariance.{IsFieldOn, IsInvariant}
use Rattle.lie_geometry.specs.SolvedEquations.{SolvedEquation, IsSolved}
use Rattle.lie_systems.specs.Works.{Limit, IsWorkWithin, IsWorkPast}
use Rattle.lie_spans.specs.Fields.{column_before, field_entry, IsFieldIn, IsFieldBasis}
use Rattle.lie_spans.specs.Reduced.{IsReduced}
use Rattle.lie_ring.specs.declared.ratio.Ratio.{Ratio}
use Rattle.lie_brackets.specs.Tables.{IsClosed, IsTable, TableMakes}

-- a field with p + q components in the variables below p + q is a field on the space
abbrev pub FieldInIsFieldOn : Type 0
FieldInIsFieldOn = (S : Space) (V : VectorField) → IsFieldIn (S.p + S.q) V ↔ IsFieldOn S V

-- the reduced basis of the fields that are invariant under solved equations is closed under the bracket
abbrev pub InvariantBasisIsClosed : Type 0
InvariantBasisIsClosed = (S : Space) → IsSpace S → (rs : List SolvedEquation) → IsSolved rs → (Vs : List VectorField)
    → IsFieldBasis (S.p + S.q) (IsInvariant S rs) Vs → IsClosed S Vs

-- a reduced list of fields has at most one table
abbrev pub TableIsUnique : Type 0
TableIsUnique = (S : Space) (Vs : List VectorField) → IsReduced field_entry column_before Vs → (es fs : List (List Ratio))
    → IsTable S Vs es → IsTable S Vs fs → es ≡ fs

-- the work of a table is within the limits, or past one of them
abbrev pub TableIsWithinOrPast : Type 0
TableIsWithinOrPast = (S : Space) (Vs : List VectorField)
    → IsWorkWithin (TableMakes S Vs) ⊎ ((limit : Limit) × IsWorkPast (TableMakes S Vs) limit)

-- where it is within the limits, it is past none
abbrev pub TableIsNotWithinAndPast : Type 0
TableIsNotWithinAndPast = (S : Space) (Vs : List VectorField) (limit : Limit)
    → IsWorkWithin (TableMakes S Vs) → ¬ (IsWorkPast (TableMakes S Vs) limit)
