use Rattle.std.specs.Prelude.{◌≡◌, ◌++◌, drop}
use Rattle.lie_degree.specs.Said.{row_said}
use Rattle.lie_degree.proofs.conditions.row_said.Given as goal

abbrev pub invariant-loop-one : goal.invariant-loop-one
invariant-loop-one l = l.row.items ++ row_said (drop l.one-index l.said) l.mono ≡ row_said l.said l.mono
