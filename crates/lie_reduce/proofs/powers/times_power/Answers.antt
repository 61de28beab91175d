use Rattle.std.proofs.Common.{sym, ap, ◌∙◌, arith, ◌≡◌}
use Rattle.std.proofs.lemmas.Result.{err_from_is_err_and}
use Rattle.lie_math.specs.Polynomial.{◌*ᴾ◌}
use Rattle.lie_reduce.specs.ReducedTerms.{power}
use Rattle.lie_reduce.proofs.PowerSteps.{times_one, power_more, power_cause}
use Rattle.lie_reduce.proofs.powers.times_power.Goals as goal

pub loop-init : goal.loop-init
loop-init c = sym (times_one c.args.poly)

pub returns-in_err-product-clause-past : goal.returns-in_err-product-clause-past
returns-in_err-product-clause-past c =
    let p = err_from_is_err_and c.from_residual.result c.from_residual.ensures.1 in
    rw (p.1, p.2) (power_cause c.in_err-product.field-0.0 c.args.poly c.loop.product c.args.base.now c.loop.counter c.args.exponent c.requires c.loop.invariant c.loop-test.true c.in_err-product.ensures.past)

pub loop-preserved : goal.loop-preserved
loop-preserved c = power_more c.args.poly c.loop.product c.in_ok-product.product c.args.base.now c.loop.counter c.in_ok-product.ensures.product c.loop.invariant

pub returns-clause-product : goal.returns-clause-product
returns-clause-product c = let e : c.loop.counter ≡ c.args.exponent = omega arith in c.loop.invariant ∙ ap (λ n. c.args.poly *ᴾ power c.args.base.now n) e
