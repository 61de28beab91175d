use Rattle.std.proofs.Common.{arith, sym}
use Rattle.lie_jet.specs.Derivatives.{derivative_of}
use Rattle.lie_lin.proofs.Placing.{place_found, place_taken, place_further, place_last}
use Rattle.lie_lin.proofs.derivatives.place_of.Goals as goal

pub loop-i-preserved : goal.loop-i-preserved
loop-i-preserved c = record {
  passed = place_further (derivative_of c.args.der.now) c.args.ders.now c.loop-i.i _ c.loop-i-test.true (sym c.in-Greater.ensures) c.loop-i.invariant.passed;
  bound = omega arith;
}

pub returns-in-Less : goal.returns-in-Less
returns-in-Less c = (c.loop-i.invariant.bound, place_found c.args.der.now c.args.ders.now c.loop-i.i _ c.loop-i-test.true (sym c.in-Less.ensures) c.loop-i.invariant.passed)

pub returns-in-Equal : goal.returns-in-Equal
returns-in-Equal c = place_taken (derivative_of c.args.der.now) c.args.ders.now c.loop-i.i _ c.loop-i-test.true (sym c.in-Equal.ensures) c.loop-i.invariant.passed

pub returns : goal.returns
returns c = (c.loop-i.invariant.bound, place_last c.args.der.now c.args.ders.now c.loop-i.i (omega (arith, c.loop-i-test.false)) c.loop-i.invariant.passed)
