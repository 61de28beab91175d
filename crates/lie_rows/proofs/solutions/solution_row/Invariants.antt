use Rattle.lie_rows.proofs.SolutionEntries.{Filling}
use Rattle.lie_rows.specs.Rows.{rows_of}
use Rattle.lie_rows.proofs.solutions.solution_row.Given as goal

abbrev pub invariant-loop-j : goal.invariant-loop-j
invariant-loop-j l = Filling l.column l.columns (rows_of l.kept.rows.items) l.j l.out.items
