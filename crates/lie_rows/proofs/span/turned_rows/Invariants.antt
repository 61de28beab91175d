use Rattle.std.proofs.Common.{◌≡◌, ◌++◌}
use Rattle.lie_spans.specs.Elimination.{turned_rows}
use Rattle.lie_rows.specs.Rows.{rows_of}
use Rattle.lie_rows.proofs.span.turned_rows.Given as goal

abbrev pub invariant-loop-row : goal.invariant-loop-row
invariant-loop-row l = rows_of l.out.items ++ turned_rows (rows_of l.row-iterator.rest.items) ≡ turned_rows (rows_of l.fn.rows.items)
