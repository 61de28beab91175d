use Rattle.std.proofs.Common.{◌≤◌}
use Rattle.lie_rows.proofs.Lowering.{Lowering}
use Rattle.lie_rows.specs.Rows.{rows_of}
use Rattle.lie_rows.proofs.kept.lowered_row.Given as goal

abbrev pub invariant-loop-column : goal.invariant-loop-column
invariant-loop-column l = record { within : l.column ≤ l.columns; state : Lowering l.columns (rows_of l.kept.rows.items) l.row l.column (rows_of l.left.items) }

abbrev pub decreases-loop-column : goal.decreases-loop-column
decreases-loop-column l = l.column
