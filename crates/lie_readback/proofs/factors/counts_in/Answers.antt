use Rattle.std.proofs.Common.{ap, ◌∙◌, map, arith}
use Rattle.lie_readback.specs.Factors.{count_in, counts_in}
use Rattle.lie_readback.proofs.CountSteps.{counts_more, counts_done}
use Rattle.lie_readback.proofs.factors.counts_in.Goals as goal

pub loop-i-preserved : goal.loop-i-preserved
loop-i-preserved c =
    counts_more (count_in c.args.text.now) c.args.names.now c.loop-i.i c.loop-i.counts _ c.loop-i-test.true (omega (arith, c.requires, c.loop-i-test.true)) c.count_in.ensures c.loop-i.invariant

pub returns : goal.returns
returns c = counts_done (count_in c.args.text.now) c.args.names.now c.loop-i.i c.loop-i.counts c.loop-i-test.false c.loop-i.invariant
