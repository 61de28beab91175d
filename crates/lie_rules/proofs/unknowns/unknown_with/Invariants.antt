use Rattle.std.proofs.Common.{◌≡◌, take}
use Rattle.std.specs.List.{AllByRecursion as Every}
use Rattle.lie_lin.specs.declared.system.Unknown.{Unknown}
use Rattle.lie_rules.proofs.unknowns.unknown_with.Given as goal

abbrev pub invariant-loop-unknown : goal.invariant-loop-unknown
invariant-loop-unknown l = Every (λ (u : Unknown). ¬ (u.number ≡ l.number)) (take l.unknown-index l.unknowns)
