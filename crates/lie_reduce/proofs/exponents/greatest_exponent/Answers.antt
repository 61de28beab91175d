use Rattle.lie_reduce.proofs.GreatestExponents.{exponent_more}
use Rattle.lie_reduce.proofs.exponents.greatest_exponent.Goals as goal

pub loop-p-preserved : goal.loop-p-preserved
loop-p-preserved c = exponent_more c.args.polynomials.now c.loop-p.p-index c.p-item.result c.args.number c.loop-p.greatest c.greatest_in.result c.max-greatest.result c.as_slice.result.now c.in_ok-terms.terms.items c.loop-p-test.true c.p-item.is c.loop-p.invariant c.greatest_in.ensures c.as_slice.ensures.value c.in_ok-terms.ensures c.max-greatest.ensures
