-- The columns of the general form of a system, and the rows of its unknowns.
use Rattle.std.specs.Prelude.{◌≡◌, ◌↔◌, List, map, get_or}
use Rattle.std.specs.List.{Any, Contains}
use Rattle.lie_math.specs.LinearForm.{no_form}
use Rattle.lie_math.specs.LinearSystem.{LinearSystem}
use Rattle.lie_systems.specs.Triples.{Triple, triples}
use Rattle.lie_spans.specs.ConstantSystems.{unknown_fields}
use Rattle.lie_spans.specs.FieldRows.{row_of_field}
use Rattle.lie_spans.specs.Fields.{Column, column_before}
use Rattle.lie_spans.specs.Rows.{Row}
use Rattle.lie_spans.specs.Spans.{EveryTwo}

-- the monomial of the column occurs in the general form of its component
abbrev pub OccursInGeneral : LinearSystem → Column → Type 0
OccursInGeneral S k = Any (λ (t : Triple). t.1 ≡ k.1) (triples (get_or S.general k.0 no_form))

-- the columns that occur in the general form, in order
pub record AreGeneralColumns (S : LinearSystem) (ks : List Column) : Type 0 where
  pub rising : EveryTwo column_before ks
  pub elements : (k : Column) → Contains ks k ↔ OccursInGeneral S k

-- for each unknown in order, the row of the field that the system gives for 1 in its place and 0 in the place of all others
abbrev pub unknown_rows : List Column → LinearSystem → List Row
unknown_rows ks S = map (row_of_field ks) (unknown_fields S)
