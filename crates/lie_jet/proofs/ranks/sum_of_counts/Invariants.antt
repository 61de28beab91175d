use Rattle.std.proofs.Common.{◌≡◌, ◌+◌, ◌*◌, ◌≤◌, drop}
use Rattle.lie_math.specs.Counts.{order}
use Rattle.lie_jet.proofs.ranks.sum_of_counts.Given as goal

abbrev pub invariant-loop-count : goal.invariant-loop-count
invariant-loop-count l = (l.sum + order (drop l.count-index l.counts) ≡ order l.counts) × (l.sum ≤ 255 * l.count-index)
