use Rattle.std.proofs.Common.{arith}
use Rattle.lie_lin.proofs.OrderSteps.{count_more}
use Rattle.lie_lin.proofs.order.form_triple_count.Goals as goal

pub loop-term-preserved : goal.loop-term-preserved
loop-term-preserved c = record {
  count = count_more c.terms-term-items.result.now c.loop-term.term-index c.loop-term.count c.len.result c.term-item.result c.loop-term-test.true c.term-item.is c.loop-term.invariant.count c.len.ensures.count;
  small = omega (arith, c.len.ensures.count, c.len.ensures.limits.terms, c.loop-term.invariant.small);
}
