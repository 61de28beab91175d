use Rattle.std.specs.Prelude.{◌≤◌, ◌++◌, drop, length}
use Rattle.std.specs.List.Sorted.{IsStrictlySortedBy}
use Rattle.lie_systems.specs.Works.{greatest_column_count}
use Rattle.lie_spans.specs.Fields.{column_cmp}
use Rattle.lie_algebra.proofs.ColumnLists.{IsSameColumns}
use Rattle.lie_degree.specs.Columns.{columns_in}
use Rattle.lie_degree.proofs.columns.insert_component.Given as goal

abbrev pub invariant-loop-mono : goal.invariant-loop-mono
invariant-loop-mono l = record {
  sorted : IsStrictlySortedBy column_cmp l.columns.items;
  few : length l.columns.items ≤ greatest_column_count;
  same : IsSameColumns (l.columns.items ++ columns_in l.component (drop l.mono-index l.monos))
      (l.fn.columns.items ++ columns_in l.component l.monos);
}
