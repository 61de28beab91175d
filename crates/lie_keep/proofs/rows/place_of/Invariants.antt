-- The row isn't among those before, which stay.
use Rattle.std.proofs.Common.{◌≡◌, ◌++◌, take, drop}
use Rattle.lie_outer.specs.Rows.{row_named, rows_without}
use Rattle.lie_keep.proofs.rows.place_of.Given as goal

abbrev pub invariant-loop-at : goal.invariant-loop-at
invariant-loop-at l = (row_named (drop l.at l.rows) l.name ≡ row_named l.rows l.name) × (rows_without l.rows l.name ≡ take l.at l.rows ++ rows_without (drop l.at l.rows) l.name)
