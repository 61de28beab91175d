use Rattle.std.proofs.Common.{◌≡◌, ◌++◌, map, take}
use Rattle.lie_lin.specs.Systems.{unknown_of}
use Rattle.lie_steps.specs.Replacement.{without}
use Rattle.lie_change.proofs.replacing.unknowns_after.Given as goal

abbrev pub invariant-loop-unknown : goal.invariant-loop-unknown
invariant-loop-unknown l = map unknown_of l.after.items ≡ without l.number (map unknown_of (take l.unknown-index l.unknowns))

abbrev pub invariant-loop-unknown-2 : goal.invariant-loop-unknown-2
invariant-loop-unknown-2 l = map unknown_of l.after.items ≡ without l.number (map unknown_of l.unknowns)
    ++ map unknown_of (take l.unknown-index l.fresh)
