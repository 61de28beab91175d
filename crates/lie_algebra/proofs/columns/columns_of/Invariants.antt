use Rattle.std.specs.Prelude.{◌≡◌, ◌≤◌, ◌++◌, drop, length}
use Rattle.std.specs.List.Sorted.{IsStrictlySortedBy}
use Rattle.lie_systems.specs.Works.{greatest_column_count}
use Rattle.lie_spans.specs.Fields.{column_cmp}
use Rattle.lie_algebra.specs.ColumnLists.{listed_columns}
use Rattle.lie_algebra.proofs.ColumnLists.{IsSameColumns}
use Rattle.lie_algebra.proofs.columns.columns_of.Given as goal

abbrev pub invariant-loop-form : goal.invariant-loop-form
invariant-loop-form l = record {
  sorted : IsStrictlySortedBy column_cmp l.columns.items;
  few : length l.columns.items ≤ greatest_column_count;
  same : IsSameColumns (l.columns.items ++ listed_columns l.form-index (drop l.form-index l.general)) (listed_columns 0 l.general);
  component : l.component ≡ l.form-index;
}
