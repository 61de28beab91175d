use Rattle.std.proofs.Common.{take}
use Rattle.lie_math.specs.Counts.{order}
use Rattle.lie_symbolic.proofs.symbolic_coefficient.+symbolic_coefficient.Given as goal

abbrev pub decreases-symbolic_coefficient : goal.decreases-symbolic_coefficient
decreases-symbolic_coefficient l = order (take l.space.p l.jet.now.counts)
