use Rattle.lie_rows.specs.Rows.{rows_of, AreEnds}
use Rattle.lie_rows.proofs.Keeping.{Keeping}
use Rattle.lie_rows.proofs.kept.kept_rows.Given as goal

abbrev pub invariant-loop-row : goal.invariant-loop-row
invariant-loop-row l = record { state : Keeping l.columns l.rows l.row-index (rows_of l.kept.rows.items); ends : AreEnds (rows_of l.kept.rows.items) l.kept.ends.items }
