use Rattle.std.proofs.Common.{take}
use Rattle.std.specs.List.{AllByRecursion as Every}
use Rattle.lie_systems.specs.Normalised.{IsNormalised}
use Rattle.lie_lin.proofs.validity.are_normalised.Given as goal

abbrev pub invariant-loop-eq : goal.invariant-loop-eq
invariant-loop-eq l = Every IsNormalised (take l.eq-index l.list)
