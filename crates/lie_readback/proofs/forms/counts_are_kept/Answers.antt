use Rattle.lie_readback.proofs.Grouping.{every_got}
use Rattle.lie_readback.proofs.forms.counts_are_kept.Goals as goal

pub returns : goal.returns
returns c = every_got c.args.counts.now c.type_inv.counts
