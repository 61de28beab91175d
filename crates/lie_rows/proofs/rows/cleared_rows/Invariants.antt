use Rattle.lie_rows.specs.Rows.{rows_of}
use Rattle.lie_rows.proofs.Clearing.{Clearing}
use Rattle.lie_rows.proofs.rows.cleared_rows.Given as goal

abbrev pub invariant-loop-row : goal.invariant-loop-row
invariant-loop-row l = Clearing l.pivot l.column (rows_of l.fn.rows.items) (rows_of l.row-iterator.rest.items) (rows_of l.out.items)
