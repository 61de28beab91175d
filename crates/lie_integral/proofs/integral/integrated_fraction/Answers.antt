use Rattle.std.proofs.Common.{◌∙◌, ap, arith, subst, ◌≡◌, ◌*◌}
use Rattle.std.specs.Prelude.{pos, neg_ℤ, ◌*ℤ◌, unsigned_abs}
use Rattle.lie_systems.specs.Normalised.{sign}
use Rattle.lie_steps.specs.Integrate.{rising}
use Rattle.lie_integral.specs.Fractions.{IsFraction}
use Rattle.lie_integral.proofs.IntegralNumbers.{start_none, start_fraction, step_none, step_fraction, whole_positive}
use Rattle.lie_integral.proofs.integral.integrated_fraction.Goals as goal

pub over-requires : goal.over-requires
over-requires c = whole_positive c.args.integration.now.number c.requires c.absolute.result c.absolute.ensures

pub returns-in_err-fraction : goal.returns-in_err-fraction
returns-in_err-fraction c =
    rw c.from_residual.ensures (start_none c.args.integration.now.number c.args.number c.args.exponent c.turned_against-turned.result
    c.absolute.result c.args.integration.now.times c.turned_against-turned.ensures c.absolute.ensures
    (c.in_err-fraction.ensures c.turned_against-turned.result 1 c.whole_fraction.ensures))

pub loop-step-init : goal.loop-step-init
loop-step-init c =
    start_fraction c.args.integration.now.number c.args.number c.args.exponent c.turned_against-turned.result c.absolute.result
    c.in_ok-fraction.fraction c.turned_against-turned.ensures c.absolute.ensures
    (c.in_ok-fraction.ensures c.turned_against-turned.result 1 c.whole_fraction.ensures)

pub returns-in_err-fraction-2 : goal.returns-in_err-fraction-2
returns-in_err-fraction-2 c =
    rw c.from_residual-in_err-fraction-2.ensures
    (step_none c.args.integration.now.number c.args.number c.args.exponent c.whole_of-factor.result c.loop-step.step
    c.args.integration.now.times (c.whole_of-factor.ensures
    ∙ ap pos (let a = c.from.ensures in let b = c.from-in-loop-step.ensures in omega arith)) c.loop-step-test.true
    (c.in_err-fraction-2.ensures _ _ c.loop-step.invariant))

pub loop-step-preserved : goal.loop-step-preserved
loop-step-preserved c =
    step_fraction c.args.integration.now.number c.args.number c.args.exponent c.whole_of-factor.result c.loop-step.step
    c.in_ok-fraction-2.fraction (c.whole_of-factor.ensures
    ∙ ap pos (let a = c.from.ensures in let b = c.from-in-loop-step.ensures in omega arith))
    (c.in_ok-fraction-2.ensures _ _ c.loop-step.invariant)

pub returns : goal.returns
returns c =
    let e : c.loop-step.step ≡ c.args.integration.now.times =
    (let a = c.loop-step-test.false in let b = c.loop-step.auto.step-end in omega arith) in
    subst (λ k. IsFraction (neg_ℤ (sign c.args.integration.now.number) *ℤ c.args.number)
    (unsigned_abs c.args.integration.now.number * rising c.args.exponent k) c.loop-step.fraction) e c.loop-step.invariant
