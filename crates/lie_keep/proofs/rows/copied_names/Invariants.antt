-- The names of the rows so far.
use Rattle.std.proofs.Common.{◌≡◌, map, take}
use Rattle.lie_outer.specs.Rows.{name_of_row}
use Rattle.lie_keep.proofs.rows.copied_names.Given as goal

abbrev pub invariant-loop-row : goal.invariant-loop-row
invariant-loop-row l = l.names.items ≡ map name_of_row (take l.row-index l.rows)
