use Rattle.std.proofs.Common.{◌<◌, ◌≤◌, ◌∙◌, map, length, subst, arith}
use Rattle.std.specs.List.{Contains, AllByRecursion as Every}
use Rattle.std.proofs.lemmas.Result.{err_from_is_err_and}
use Rattle.lie_systems.specs.Works.{IsMadeWithin}
use Rattle.lie_lin.specs.Systems.{unknown_of}
use Rattle.lie_normal.specs.WorkCauses.{IsWorkCause}
use Rattle.lie_normal.proofs.CountDifferences.{derivatives-missing, made-missing}
use Rattle.lie_normal.proofs.DerivativeTurns.{between_start, between_next, between_cause, between_value, between_left, times_is}
use Rattle.lie_normal.proofs.WorkSteps.{all_within, left_none}
use Rattle.lie_normal.proofs.derivatives.derived_between.Goals as goal

pub loop-var-init : goal.loop-var-init
loop-var-init c = between_start (map unknown_of c.args.unknowns.now) c.args.from.now.counts c.args.to.now.counts c.args.eq.now c.in_ok-made.made c.in_ok-made.ensures

pub returns-in_err-made-2-clause-past : goal.returns-in_err-made-2-clause-past
returns-in_err-made-2-clause-past c =
    let p = err_from_is_err_and c.from_residual-in_err-made-2.result c.from_residual-in_err-made-2.ensures.1 in
    let n : c.loop-var.var < length c.args.to.now.counts = omega arith in
    rw (p.1, p.2) (subst (λ bs. IsWorkCause c.in_err-made-2.field-0.0 (Contains bs)) (made-missing (map unknown_of c.args.unknowns.now) c.args.from.now.counts c.args.to.now.counts c.args.eq.now)
    (between_cause (map unknown_of c.args.unknowns.now) c.args.from.now.counts c.args.to.now.counts c.args.eq.now c.loop-var.var c.loop-var.made n c.loop-var.invariant c.saturating_sub-times.result
    (times_is c.args.from.now.counts c.args.to.now.counts c.loop-var.var c.from.result c.from-in-loop-var.result c.saturating_sub-times.result c.from.ensures c.from-in-loop-var.ensures c.saturating_sub-times.ensures)
    c.in_err-made-2.field-0.0 c.in_err-made-2.ensures.past))

pub loop-var-preserved : goal.loop-var-preserved
loop-var-preserved c =
    let n : c.loop-var.var < length c.args.to.now.counts = omega arith in
    between_next (map unknown_of c.args.unknowns.now) c.args.from.now.counts c.args.to.now.counts c.args.eq.now c.loop-var.var c.loop-var.made n c.loop-var.invariant c.saturating_sub-times.result
    (times_is c.args.from.now.counts c.args.to.now.counts c.loop-var.var c.from.result c.from-in-loop-var.result c.saturating_sub-times.result c.from.ensures c.from-in-loop-var.ensures c.saturating_sub-times.ensures)
    c.in_ok-made-2.made c.in_ok-made-2.ensures.derivative c.in_ok-made-2.ensures.fits

pub returns-clause-derivative : goal.returns-clause-derivative
returns-clause-derivative c =
    let n : length c.args.to.now.counts ≤ c.loop-var.var = omega (arith, c.loop-var-test.false) in
    between_value (map unknown_of c.args.unknowns.now) c.args.from.now.counts c.args.to.now.counts c.args.eq.now c.loop-var.var c.loop-var.made n c.loop-var.invariant
    ∙ derivatives-missing (map unknown_of c.args.unknowns.now) c.args.from.now.counts c.args.to.now.counts c.args.eq.now

pub returns-clause-fits : goal.returns-clause-fits
returns-clause-fits c =
    let n : length c.args.to.now.counts ≤ c.loop-var.var = omega (arith, c.loop-var-test.false) in
    all_within _ (subst (Every IsMadeWithin) (made-missing (map unknown_of c.args.unknowns.now) c.args.from.now.counts c.args.to.now.counts c.args.eq.now)
    (left_none _ (between_left (map unknown_of c.args.unknowns.now) c.args.from.now.counts c.args.to.now.counts c.args.eq.now c.loop-var.var c.loop-var.made n c.loop-var.invariant)))
