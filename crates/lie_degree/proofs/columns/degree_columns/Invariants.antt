use Rattle.std.specs.Prelude.{◌≤◌, ◌-◌, ◌++◌, length}
use Rattle.std.specs.List.Sorted.{IsStrictlySortedBy}
use Rattle.lie_systems.specs.Works.{greatest_column_count}
use Rattle.lie_spans.specs.Fields.{column_cmp}
use Rattle.lie_algebra.proofs.ColumnLists.{IsSameColumns}
use Rattle.lie_degree.specs.Columns.{columns_from, monomials_to}
use Rattle.lie_degree.proofs.columns.degree_columns.Given as goal

abbrev pub invariant-loop-component : goal.invariant-loop-component
invariant-loop-component l = record {
  sorted : IsStrictlySortedBy column_cmp l.columns.items;
  few : length l.columns.items ≤ greatest_column_count;
  same : IsSameColumns (l.columns.items ++ columns_from l.component (l.count - l.component) (monomials_to l.count l.highest))
      (columns_from 0 l.count (monomials_to l.count l.highest));
}
