use Rattle.std.specs.Prelude.{suc}
use Rattle.lie_reduce.proofs.GreatestVariables.{pairs_more}
use Rattle.lie_reduce.proofs.order.greatest_variable_in.Goals as goal

pub loop-pair-preserved : goal.loop-pair-preserved
loop-pair-preserved c = pairs_more c.args.pairs.now c.loop-pair.pair-index (0, 0) (suc c.args.number) c.loop-pair.greatest c.max-greatest.result c.loop-pair-test.true c.loop-pair.invariant c.max-greatest.ensures
