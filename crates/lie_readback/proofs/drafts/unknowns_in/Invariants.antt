use Rattle.std.proofs.Common.{◌≡◌, ◌+◌, ◌++◌, drop, map}
use Rattle.lie_lin.specs.Systems.{unknown_of}
use Rattle.lie_readback.specs.SystemDrafts.{unknowns_in}
use Rattle.lie_readback.proofs.drafts.unknowns_in.Given as goal

abbrev pub invariant-loop-i : goal.invariant-loop-i
invariant-loop-i l = map unknown_of l.unknowns.items ++ unknowns_in l.names (l.i + 1) (map (λ x. x.now) (drop l.i l.lines)) ≡ unknowns_in l.names 1 (map (λ x. x.now) l.lines)
