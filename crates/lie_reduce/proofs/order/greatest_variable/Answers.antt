use Rattle.std.specs.Prelude.{suc}
use Rattle.lie_reduce.proofs.GreatestVariables.{terms_more}
use Rattle.lie_reduce.proofs.order.greatest_variable.Goals as goal

pub loop-term-preserved : goal.loop-term-preserved
loop-term-preserved c = terms_more c.args.terms.now c.loop-term.term-index c.term-item.result (suc c.args.number) c.loop-term.greatest c.greatest_variable_in-greatest.result c.pairs.result.now c.loop-term-test.true c.term-item.is c.loop-term.invariant c.pairs.ensures c.greatest_variable_in-greatest.ensures
