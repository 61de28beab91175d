use Rattle.lie_rows.specs.Rows.{rows_of}
use Rattle.lie_rows.proofs.Eliminating.{Eliminating}
use Rattle.lie_rows.proofs.span.span_basis.Given as goal

abbrev pub invariant-loop-column : goal.invariant-loop-column
invariant-loop-column l = Eliminating l.columns (rows_of l.rows) l.column (rows_of l.left.pivots.items) (rows_of l.left.others.items)
