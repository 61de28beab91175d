use Rattle.std.proofs.Common.{arith}
use Rattle.lie_lin.proofs.ValidParts.{unknown_below}
use Rattle.lie_lin.proofs.validity.is_unknown_below.Goals as goal

pub returns : goal.returns
returns c = unknown_below c.args.bound c.args.next c.args.unknown c.are_bits_below.result (omega arith) c.are_bits_below.ensures
