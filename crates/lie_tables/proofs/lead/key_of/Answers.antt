use Rattle.std.proofs.Common.{◌≡◌, length, arith}
use Rattle.lie_tables.proofs.Keys.{key_is}
use Rattle.lie_tables.proofs.lead.key_of.Goals as goal

pub returns : goal.returns
returns c = let eight : length c.args.der.now.counts ≡ 8 = omega arith in key_is c.args.der.now eight
