use Rattle.std.specs.Prelude.{◌≡◌, ◌++◌, drop, map}
use Rattle.lie_rows.specs.Rows.{rows_of}
use Rattle.lie_spans.specs.FieldRows.{field_of_row}
use Rattle.lie_algebra.proofs.fields.fields_of.Given as goal

abbrev pub invariant-loop-row : goal.invariant-loop-row
invariant-loop-row l = l.fields.items ++ map (field_of_row l.count l.columns) (rows_of (drop l.row-index l.rows)) ≡ map (field_of_row l.count l.columns) (rows_of l.rows)
