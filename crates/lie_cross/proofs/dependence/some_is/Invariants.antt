use Rattle.std.proofs.Common.{map, take}
use Rattle.std.specs.List.{AllByRecursion as Every}
use Rattle.lie_lin.specs.Systems.{unknown_of}
use Rattle.lie_cross.proofs.DependentUnknowns.{IsNot}
use Rattle.lie_cross.proofs.dependence.some_is.Given as goal

abbrev pub invariant-loop-term : goal.invariant-loop-term
invariant-loop-term l = Every (IsNot (map unknown_of l.unknowns) l.var l.yes) (take l.term-index l.term-items)
