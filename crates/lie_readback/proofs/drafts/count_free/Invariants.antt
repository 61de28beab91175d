use Rattle.std.proofs.Common.{◌≡◌, ◌+◌, ◌-◌, drop, map, length}
use Rattle.lie_readback.specs.SystemDrafts.{free_lines}
use Rattle.lie_readback.proofs.drafts.count_free.Given as goal

abbrev pub decreases-loop-count : goal.decreases-loop-count
decreases-loop-count l = length l.lines - l.count

abbrev pub invariant-loop-count : goal.invariant-loop-count
invariant-loop-count l = length (free_lines (map (λ x. x.now) l.lines)) ≡ l.count + length (free_lines (map (λ x. x.now) (drop l.count l.lines)))
