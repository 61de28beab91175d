use Rattle.std.specs.Prelude.{◌≤◌, ◌++◌, drop, length}
use Rattle.std.specs.List.Sorted.{IsStrictlySortedBy}
use Rattle.lie_systems.specs.Works.{greatest_column_count}
use Rattle.lie_spans.specs.Fields.{column_cmp}
use Rattle.lie_algebra.specs.ColumnLists.{form_columns}
use Rattle.lie_algebra.proofs.ColumnLists.{IsSameColumns}
use Rattle.lie_algebra.proofs.FormColumns.{listed_in}
use Rattle.lie_algebra.proofs.columns.insert_form.Given as goal

abbrev pub invariant-loop-term : goal.invariant-loop-term
invariant-loop-term l = record {
  sorted : IsStrictlySortedBy column_cmp l.columns.items;
  few : length l.columns.items ≤ greatest_column_count;
  same : IsSameColumns (l.columns.items ++ listed_in l.component (drop l.term-index l.term-items)) (l.fn.columns.items ++ form_columns l.component l.form);
}
