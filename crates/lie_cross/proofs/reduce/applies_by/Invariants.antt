use Rattle.std.proofs.Common.{take, remove}
use Rattle.std.specs.List.{AllByRecursion as Every}
use Rattle.lie_cross.proofs.ReducibleForms.{IsNotReducible}
use Rattle.lie_cross.proofs.reduce.applies_by.Given as goal

abbrev pub invariant-loop-term : goal.invariant-loop-term
invariant-loop-term l = Every (IsNotReducible (remove l.equations l.place)) (take l.term-index l.term-items)
