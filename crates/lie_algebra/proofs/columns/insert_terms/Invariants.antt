use Rattle.std.specs.Prelude.{◌≤◌, ◌++◌, length}
use Rattle.std.specs.List.{AllByRecursion as Every}
use Rattle.std.specs.List.Sorted.{IsStrictlySortedBy}
use Rattle.lie_math.specs.Limits.{HasLowExponents}
use Rattle.lie_systems.specs.Works.{greatest_column_count}
use Rattle.lie_spans.specs.Fields.{column_cmp}
use Rattle.lie_algebra.specs.ColumnLists.{term_columns}
use Rattle.lie_algebra.proofs.ColumnLists.{IsSameColumns}
use Rattle.lie_algebra.proofs.columns.insert_terms.Given as goal

abbrev pub invariant-loop-mono : goal.invariant-loop-mono
invariant-loop-mono l = record {
  sorted : IsStrictlySortedBy column_cmp l.columns.items;
  few : length l.columns.items ≤ greatest_column_count;
  same : IsSameColumns (l.columns.items ++ term_columns l.component l.mono-iterator.rest.items) (l.fn.columns.items ++ term_columns l.component l.fn.coefficient.list);
  low : Every (λ t. HasLowExponents t.0) l.mono-iterator.rest.items;
}
