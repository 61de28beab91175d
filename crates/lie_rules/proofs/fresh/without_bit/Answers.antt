use Rattle.lie_rules.proofs.ClearedBits.{variables_without}
use Rattle.lie_rules.proofs.fresh.without_bit.Goals as goal

pub returns : goal.returns
returns c = variables_without c.args.bits c.args.i c.requires
