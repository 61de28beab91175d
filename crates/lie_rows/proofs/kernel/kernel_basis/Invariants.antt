use Rattle.lie_rows.proofs.Solving.{Solved}
use Rattle.lie_rows.specs.Rows.{rows_of}
use Rattle.lie_rows.proofs.kernel.kernel_basis.Given as goal

abbrev pub invariant-loop-column : goal.invariant-loop-column
invariant-loop-column l = Solved l.columns (rows_of l.kept.rows.items) l.column (rows_of l.out.items)
