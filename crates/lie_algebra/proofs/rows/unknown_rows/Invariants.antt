use Rattle.std.specs.Prelude.{◌≡◌, ◌++◌, drop}
use Rattle.lie_rows.specs.Rows.{rows_of}
use Rattle.lie_algebra.proofs.UnknownRows.{rows_from}
use Rattle.lie_algebra.proofs.rows.unknown_rows.Given as goal

abbrev pub invariant-loop-unknown : goal.invariant-loop-unknown
invariant-loop-unknown l = rows_of l.rows.items ++ rows_from l.columns l.system.system.general (drop l.unknown-index l.unknown-items) ≡ rows_from l.columns l.system.system.general l.unknown-items
