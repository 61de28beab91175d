use Rattle.std.proofs.Common.{arith}
use Rattle.lie_jet.proofs.TotalParts.{listed_terms}
use Rattle.lie_reduce.proofs.GreatestVariables.{rule_ready, low_variable, order_more}
use Rattle.lie_reduce.proofs.order.greatest_order.Goals as goal

pub order_at-requires : goal.order_at-requires
order_at-requires c =
    low_variable c.args.space c.rule-item.result c.jet_number.result c.greatest_variable-number.result c.as_slice.result.now (rule_ready c.args.space c.args.rules.now c.loop-rule.rule-index c.rule-item.result c.requires c.loop-rule-test.true c.rule-item.is) c.jet_number.ensures.number
    (listed_terms c.rule-item.result.right c.as_slice.result.now c.in_ok-terms.terms.items c.as_slice.ensures.value c.in_ok-terms.ensures) c.greatest_variable-number.ensures

pub loop-rule-preserved : goal.loop-rule-preserved
loop-rule-preserved c = (
  order_more c.args.space c.args.rules.now c.loop-rule.rule-index c.rule-item.result c.jet_number.result c.greatest_variable-number.result c.order_at.result c.loop-rule.greatest c.max-greatest.result c.as_slice.result.now c.loop-rule-test.true c.rule-item.is
      (rule_ready c.args.space c.args.rules.now c.loop-rule.rule-index c.rule-item.result c.requires c.loop-rule-test.true c.rule-item.is) c.jet_number.ensures.number
      (listed_terms c.rule-item.result.right c.as_slice.result.now c.in_ok-terms.terms.items c.as_slice.ensures.value c.in_ok-terms.ensures) c.greatest_variable-number.ensures c.order_at.ensures.order c.loop-rule.invariant.0 c.max-greatest.ensures,
  let a = c.loop-rule.invariant.1 in let b = c.order_at.ensures.low in let e = c.max-greatest.ensures in omega arith,
)
