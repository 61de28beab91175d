use Rattle.lie_reduce.proofs.GreatestExponents.{listed_more}
use Rattle.lie_reduce.proofs.exponents.greatest_in.Goals as goal

pub loop-term-preserved : goal.loop-term-preserved
loop-term-preserved c = listed_more c.args.number c.args.terms.now c.loop-term.term-index c.term-item.result c.loop-term.greatest c.exponent.result c.max-greatest.result c.loop-term-test.true c.term-item.is c.loop-term.invariant c.exponent.ensures c.max-greatest.ensures
