use Rattle.lie_reduce.proofs.GreatestVariables.{low_order, no_jet_order}
use Rattle.lie_reduce.proofs.order.order_at.Goals as goal

pub returns-in-Some-clause-low : goal.returns-in-Some-clause-low
returns-in-Some-clause-low c = low_order c.args.space c.args.number c.order_of.result c.in-Some.jet c.in-Some.ensures.small c.in-Some.ensures.jet.1 c.order_of.ensures c.requires

pub returns-in-None-clause-order : goal.returns-in-None-clause-order
returns-in-None-clause-order c = no_jet_order c.args.space c.args.number c.in-None.ensures.small c.in-None.ensures.jet c.requires
