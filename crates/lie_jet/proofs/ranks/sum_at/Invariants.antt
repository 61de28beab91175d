use Rattle.std.proofs.Common.{suc, ◌*◌, ◌<◌, ◌≤◌}
use Rattle.lie_geometry.specs.Coordinates.{sum_below, ways}
use Rattle.lie_jet.proofs.ranks.sum_at.Given as goal

abbrev pub invariant-loop-sum : goal.invariant-loop-sum
invariant-loop-sum l = (l.sum ≤ l.most) × (l.place < l.times * sum_below (ways l.p) (suc l.sum))

abbrev pub decreases-loop-sum : goal.decreases-loop-sum
decreases-loop-sum l = l.sum
