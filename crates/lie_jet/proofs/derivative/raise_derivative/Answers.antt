use Rattle.std.proofs.Common.{arith}
use Rattle.lie_jet.proofs.DerivativeCounts.{raised_is}
use Rattle.lie_jet.proofs.derivative.raise_derivative.Goals as goal

pub returns : goal.returns
returns c = rw c.from.ensures (raised_is c.args.der.now.unknown c.args.i c.args.der.now.counts (omega arith))
