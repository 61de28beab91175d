use Rattle.std.proofs.Common.{take}
use Rattle.std.specs.List.{AllByRecursion as Every}
use Rattle.lie_lin.specs.Validity.{IsUnknownBelow}
use Rattle.lie_lin.proofs.validity.are_unknowns_below.Given as goal

abbrev pub invariant-loop-unknown : goal.invariant-loop-unknown
invariant-loop-unknown l = Every (IsUnknownBelow l.bound l.next) (take l.unknown-index l.unknowns)
