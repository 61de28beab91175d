use Rattle.std.proofs.Common.{take}
use Rattle.std.specs.List.{AllByRecursion as Every}
use Rattle.lie_cross.proofs.ReducibleForms.{IsNotReducible}
use Rattle.lie_cross.proofs.normal.is_reducible.Given as goal

abbrev pub invariant-loop-term : goal.invariant-loop-term
invariant-loop-term l = Every (IsNotReducible l.list) (take l.term-index l.term-items)
