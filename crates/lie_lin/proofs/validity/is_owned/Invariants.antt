use Rattle.std.proofs.Common.{take}
use Rattle.std.specs.List.{AllByRecursion as Every}
use Rattle.lie_lin.specs.declared.system.Unknown as kept
use Rattle.lie_lin.specs.Validity.{IsOwner}
use Rattle.lie_lin.proofs.validity.is_owned.Given as goal

abbrev pub invariant-loop-unknown : goal.invariant-loop-unknown
invariant-loop-unknown l = Every (λ (f : kept.Unknown). ¬ (IsOwner f l.der)) (take l.unknown-index l.unknowns)
