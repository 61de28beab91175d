use Rattle.std.specs.Prelude.{◌≡◌, ◌++◌, drop, map}
use Rattle.lie_algebra.specs.ColumnLists.{unknown_coefficient, unknown_entry}
use Rattle.lie_algebra.proofs.rows.unknown_row.Given as goal

abbrev pub invariant-loop-column : goal.invariant-loop-column
invariant-loop-column l = record {
  row : l.row.items ++ map (unknown_entry l.general l.unknown) (drop l.column-index l.columns) ≡ map (unknown_entry l.general l.unknown) l.columns;
  part : l.part.terms.items ≡ (unknown_coefficient l.general l.unknown l.part.component).list;
}
