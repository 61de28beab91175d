-- The row isn't among those before.
use Rattle.std.proofs.Common.{◌≡◌, drop}
use Rattle.lie_outer.specs.Rows.{row_named}
use Rattle.lie_keep.proofs.rows.find.Given as goal

abbrev pub invariant-loop-row : goal.invariant-loop-row
invariant-loop-row l = row_named (drop l.row-index l.rows) l.name ≡ row_named l.rows l.name
