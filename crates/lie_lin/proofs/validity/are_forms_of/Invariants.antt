use Rattle.std.proofs.Common.{take}
use Rattle.std.specs.List.{AllByRecursion as Every}
use Rattle.std.specs.Prelude.{map}
use Rattle.lie_systems.specs.ValidSystems.{IsFormOf}
use Rattle.lie_lin.specs.Systems.{unknown_of}
use Rattle.lie_lin.proofs.validity.are_forms_of.Given as goal

abbrev pub invariant-loop-eq : goal.invariant-loop-eq
invariant-loop-eq l = Every (IsFormOf l.bound (map unknown_of l.unknowns)) (take l.eq-index l.list)
