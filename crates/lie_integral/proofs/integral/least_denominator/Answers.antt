use Rattle.lie_lin.specs.Forms.{triples_of}
use Rattle.std.proofs.Common.{take}
use Rattle.lie_integral.proofs.IntegralNumbers.{wide_front, denominator_next, denominator_all, denominator_start}
use Rattle.lie_integral.proofs.integral.least_denominator.Goals as goal

pub loop-triple-init : goal.loop-triple-init
loop-triple-init c = denominator_start c.args.integration.now.number c.args.integration.now.var c.args.integration.now.times
    c.one-denominator.result c.one-denominator.ensures

pub denominator_with-requires-clause-positive : goal.denominator_with-requires-clause-positive
denominator_with-requires-clause-positive c = (c.loop-triple.invariant).positive

pub returns-in_err-denominator : goal.returns-in_err-denominator
returns-in_err-denominator c =
    rw c.from_residual.ensures (wide_front c.args.integration.now.number c.args.integration.now.var c.args.integration.now.times
    c.args.list.now c.loop-triple.triple-index c.triple-item.result c.loop-triple-test.true c.triple-item.is
    (c.in_err-denominator.ensures (triples_of (take c.loop-triple.triple-index c.args.list.now)) c.loop-triple.invariant))

pub loop-triple-preserved : goal.loop-triple-preserved
loop-triple-preserved c =
    denominator_next c.args.integration.now.number c.args.integration.now.var c.args.integration.now.times c.args.list.now
    c.loop-triple.triple-index c.triple-item.result c.in_ok-denominator.denominator c.loop-triple-test.true c.triple-item.is
    (c.in_ok-denominator.ensures (triples_of (take c.loop-triple.triple-index c.args.list.now)) c.loop-triple.invariant)

pub returns : goal.returns
returns c = denominator_all c.args.integration.now.number c.args.integration.now.var c.args.integration.now.times c.args.list.now
    c.loop-triple.triple-index c.loop-triple.denominator c.loop-triple-test.false c.loop-triple.invariant
