use Rattle.std.proofs.Common.{◌≡◌, ◌≤◌, drop, map, length}
use Rattle.std.specs.Prelude.{◌==◌}
use Rattle.std.specs.List.{list_any}
use Rattle.lie_readback.proofs.DraftSteps.{bits_of}
use Rattle.lie_readback.proofs.drafts.variables_in.Given as goal

abbrev pub decreases-loop-i : goal.decreases-loop-i
decreases-loop-i l = l.i

abbrev pub invariant-loop-i : goal.invariant-loop-i
invariant-loop-i l = record {
  within : l.i ≤ length l.names;
  so_far : l.bits ≡ bits_of (map (λ n. list_any (λ b. b == n) l.letters) (drop l.i l.names));
}
