use Rattle.std.proofs.Common.{ap, sym, ◌∙◌, ◌≡◌, pos}
use Rattle.std.proofs.lemmas.Result.{err_from_is_err_and}
use Rattle.lie_math.specs.Monomial.{unit}
use Rattle.lie_math.specs.Polynomial.{◌*ᴾ◌}
use Rattle.lie_math.proofs.Limits.{term_apart}
use Rattle.lie_solved.specs.declared.solved.LeadRule.{LeadRule}
use Rattle.lie_reduce.proofs.Factors.{product, every_rest}
use Rattle.lie_reduce.proofs.PowerSteps.{times_one}
use Rattle.lie_reduce.proofs.Replacing.{missing_power, missing_is, missing_count, missing_more, missing_cause}
use Rattle.lie_reduce.proofs.reduction.times_missing.Goals as goal
use Rattle.lie_ring.proofs.Fronts.{all_taken}

pub loop-i-init : goal.loop-i-init
loop-i-init c = λ e h. sym (times_one c.args.poly)

pub times_power-requires : goal.times_power-requires
times_power-requires c = λ z. term_apart unit c.index-rules-i.result.c ((every_rest (λ (r : LeadRule). ¬ (r.c ≡ pos 0)) c.args.rules.now c.loop-i.i c.index-rules-i.result c.loop-i-test.true c.index-rules-i.is c.requires.rules.factors).0) (sym c.in_ok-factor.ensures ∙ z)

pub returns-in_err-product-clause-past : goal.returns-in_err-product-clause-past
returns-in_err-product-clause-past c = λ e h.
    let p = err_from_is_err_and c.from_residual-in_err-product.result c.from_residual-in_err-product.ensures.1 in
    rw (p.1, p.2) (missing_cause c.args.space e c.args.mono.now c.in_err-product.field-0.0 c.args.rules.now c.loop-i.i c.index-rules-i.result c.saturating_sub-missing.result c.in_ok-factor.factor c.args.poly c.loop-i.product c.loop-i-test.true c.index-rules-i.is
    (missing_count c.args.space e c.args.mono.now c.args.rules.now c.args.greatest.now c.loop-i.i c.index-rules-i.result c.saturating_sub-missing.result c.exponent.result c.jet_number.result h c.loop-i-test.true c.index-rules-i.is c.saturating_sub-missing.ensures c.exponent.ensures c.jet_number.ensures.number)
    c.in_ok-factor.ensures c.requires.rules.factors (c.loop-i.invariant e h) c.in_err-product.ensures.past)

pub loop-i-preserved : goal.loop-i-preserved
loop-i-preserved c = λ e h.
    missing_more c.args.space e c.args.mono.now c.args.rules.now c.loop-i.i c.index-rules-i.result c.saturating_sub-missing.result c.in_ok-factor.factor c.args.poly c.loop-i.product c.in_ok-product.product c.loop-i-test.true c.index-rules-i.is
    (missing_count c.args.space e c.args.mono.now c.args.rules.now c.args.greatest.now c.loop-i.i c.index-rules-i.result c.saturating_sub-missing.result c.exponent.result c.jet_number.result h c.loop-i-test.true c.index-rules-i.is c.saturating_sub-missing.ensures c.exponent.ensures c.jet_number.ensures.number)
    c.in_ok-factor.ensures (c.loop-i.invariant e h) c.in_ok-product.ensures.product

pub returns-clause-product : goal.returns-clause-product
returns-clause-product c = λ e h. c.loop-i.invariant e h ∙ ap (λ x. c.args.poly *ᴾ x) (ap (product (missing_power c.args.space e c.args.mono.now)) (all_taken c.args.rules.now c.loop-i.i c.loop-i-test.false) ∙ missing_is c.args.space e c.args.mono.now c.args.rules.now)
