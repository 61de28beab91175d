use Rattle.lie_normal.proofs.FoundDivisors.{divided_found, divided_later, none_divided}
use Rattle.lie_normal.proofs.reduction.greatest_divided.Goals as goal

pub returns-in-Some : goal.returns-in-Some
returns-in-Some c =
    divided_found c.args.eq.now c.args.leads.now c.terms-term-items.result.now c.terms-term-items.ensures.list c.loop-term.term-index c.term-item.result c.loop-term-test.true c.term-item.is c.loop-term.invariant
    c.in-Some.divisor c.in-Some.ensures

pub loop-term-preserved : goal.loop-term-preserved
loop-term-preserved c =
    divided_later c.args.eq.now c.args.leads.now c.terms-term-items.result.now c.terms-term-items.ensures.list c.loop-term.term-index c.term-item.result c.loop-term-test.true c.term-item.is c.loop-term.invariant
    c.in_default.ensures

pub returns : goal.returns
returns c = none_divided c.args.eq.now c.args.leads.now c.terms-term-items.result.now c.terms-term-items.ensures.list c.loop-term.term-index c.loop-term-test.false c.loop-term.invariant
