use Rattle.std.proofs.Common.{◌≡◌, ◌-◌, drop, length}
use Rattle.lie_readback.specs.SystemDrafts.{are_names}
use Rattle.lie_readback.proofs.drafts.are_names.Given as goal

abbrev pub decreases-loop-i : goal.decreases-loop-i
decreases-loop-i l = length l.names - l.i

abbrev pub invariant-loop-i : goal.invariant-loop-i
invariant-loop-i l = are_names l.names ≡ are_names (drop l.i l.names)
