use Rattle.std.proofs.Common.{map, arith, ◌≤◌}
use Rattle.std.proofs.lemmas.Result.{err_from_is_err_and}
use Rattle.lie_lin.specs.Systems.{unknown_of}
use Rattle.lie_normal.proofs.DerivativeTurns.{often_start, often_next, often_cause, often_value, often_left}
use Rattle.lie_normal.proofs.WorkSteps.{all_within, left_none}
use Rattle.lie_normal.proofs.derivatives.derived_often.Goals as goal

pub loop-init : goal.loop-init
loop-init c = often_start (map unknown_of c.args.unknowns.now) c.args.var c.args.times c.args.eq

pub returns-in_err-made-clause-past : goal.returns-in_err-made-clause-past
returns-in_err-made-clause-past c =
    let p = err_from_is_err_and c.from_residual.result c.from_residual.ensures.1 in
    rw (p.1, p.2) (often_cause (map unknown_of c.args.unknowns.now) c.args.var c.args.times c.args.eq c.loop.counter c.loop.made c.loop-test.true c.loop.invariant _ c.in_err-made.ensures.past)

pub loop-preserved : goal.loop-preserved
loop-preserved c =
    often_next (map unknown_of c.args.unknowns.now) c.args.var c.args.times c.args.eq c.loop.counter c.loop.made c.loop-test.true c.loop.invariant c.in_ok-made.made c.in_ok-made.ensures.derivative c.in_ok-made.ensures.fits

pub returns-clause-derivative : goal.returns-clause-derivative
returns-clause-derivative c =
    let e : c.args.times ≤ c.loop.counter = omega (arith, c.loop-test.false) in often_value (map unknown_of c.args.unknowns.now) c.args.var c.args.times c.args.eq c.loop.counter c.loop.made e c.loop.invariant

pub returns-clause-fits : goal.returns-clause-fits
returns-clause-fits c =
    let e : c.args.times ≤ c.loop.counter = omega (arith, c.loop-test.false) in
    all_within _ (left_none _ (often_left (map unknown_of c.args.unknowns.now) c.args.var c.args.times c.args.eq c.loop.counter c.loop.made e c.loop.invariant))
