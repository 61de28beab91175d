use Rattle.std.specs.Prelude.{◌≡◌, ◌++◌, map, take}
use Rattle.lie_rows.specs.Rows.{rows_of}
use Rattle.lie_degree.specs.Said.{row_said}
use Rattle.lie_degree.proofs.conditions.push_rows.Given as goal

abbrev pub invariant-loop-mono : goal.invariant-loop-mono
invariant-loop-mono l = rows_of l.rows.items ≡ rows_of l.fn.rows.items ++ map (row_said l.said) (take l.mono-index l.monos)
