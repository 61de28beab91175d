use Rattle.std.specs.Prelude.{◌≡◌, [], take}
use Rattle.std.specs.List.{AllByRecursion as Every}
use Rattle.lie_lin.specs.declared.system.Unknown as kept
use Rattle.lie_lin.specs.Systems.{unknown_of}
use Rattle.lie_algebra.proofs.finite_systems.finite.Given as goal

abbrev pub invariant-loop-unknown : goal.invariant-loop-unknown
invariant-loop-unknown l = Every (λ (u : kept.Unknown). (unknown_of u).variables ≡ []) (take l.unknown-index l.unknown-items)
