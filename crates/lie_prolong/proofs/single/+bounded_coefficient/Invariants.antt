use Rattle.std.proofs.Common.{take}
use Rattle.lie_math.specs.Counts.{order}
use Rattle.lie_prolong.proofs.single.+bounded_coefficient.Given as goal

abbrev pub decreases-bounded_coefficient : goal.decreases-bounded_coefficient
decreases-bounded_coefficient l = order (take l.space.p l.jet.now.counts)
