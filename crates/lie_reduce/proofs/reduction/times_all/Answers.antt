use Rattle.std.proofs.Common.{ap, sym, subst, ◌∙◌, get_or}
use Rattle.std.proofs.lemmas.Result.{err_from_is_err_and}
use Rattle.lie_math.specs.Limits.{absolute}
use Rattle.lie_math.specs.Polynomial.{◌*ᴾ◌}
use Rattle.lie_ring.specs.Causes.{IsCause}
use Rattle.lie_solved.specs.SolvedForms.{solved_equations}
use Rattle.lie_reduce.specs.ReducedTerms.{IsKept}
use Rattle.lie_reduce.proofs.Factors.{product, product_more, product_cause, every_rest, read_same}
use Rattle.lie_reduce.proofs.PowerSteps.{times_one}
use Rattle.lie_reduce.proofs.Replacing.{replaced_power, replaced_bulk, replaced_is, replaced_bulk_is, replaced_bounded, kept_proper, now_apart}
use Rattle.lie_reduce.proofs.reduction.times_all.Goals as goal
use Rattle.lie_ring.proofs.Fronts.{all_taken}

pub loop-pair-init : goal.loop-pair-init
loop-pair-init c = sym (times_one c.args.poly)

pub times_replaced-requires-clause-poly : goal.times_replaced-requires-clause-poly
times_replaced-requires-clause-poly c = now_apart (solved_equations c.args.space c.args.rules.now) c.args.pairs.now c.loop-pair.pair-index (0, 0) c.args.poly c.loop-pair.product c.loop-pair-test.true c.requires.kept c.requires.poly c.loop-pair.invariant

pub times_replaced-requires-clause-kept : goal.times_replaced-requires-clause-kept
times_replaced-requires-clause-kept c =
    (every_rest (IsKept (solved_equations c.args.space c.args.rules.now)) c.args.pairs.now c.loop-pair.pair-index (get_or c.args.pairs.now c.loop-pair.pair-index (0, 0)) c.loop-pair-test.true (read_same c.args.pairs.now c.loop-pair.pair-index (0, 0) (get_or c.args.pairs.now c.loop-pair.pair-index (0, 0)) c.loop-pair-test.true) c.requires.kept).0

pub returns-in_err-product-clause-past : goal.returns-in_err-product-clause-past
returns-in_err-product-clause-past c =
    let rs = solved_equations c.args.space c.args.rules.now in
    let p = err_from_is_err_and c.from_residual.result c.from_residual.ensures.1 in
    rw (p.1, p.2)
    (subst (IsCause c.in_err-product.field-0.0) (ap (λ x. absolute c.args.poly *ᴾ x) (replaced_bulk_is rs c.args.pairs.now))
    (product_cause c.in_err-product.field-0.0 (replaced_power rs) (replaced_bulk rs) (replaced_bounded rs) c.args.pairs.now c.loop-pair.pair-index (get_or c.args.pairs.now c.loop-pair.pair-index (0, 0)) c.args.poly c.loop-pair.product c.loop-pair-test.true
    (read_same c.args.pairs.now c.loop-pair.pair-index (0, 0) (get_or c.args.pairs.now c.loop-pair.pair-index (0, 0)) c.loop-pair-test.true) (kept_proper rs c.args.pairs.now c.requires.kept) c.loop-pair.invariant c.in_err-product.ensures.past))

pub loop-pair-preserved : goal.loop-pair-preserved
loop-pair-preserved c =
    product_more (replaced_power (solved_equations c.args.space c.args.rules.now)) c.args.pairs.now c.loop-pair.pair-index (get_or c.args.pairs.now c.loop-pair.pair-index (0, 0)) c.args.poly c.loop-pair.product c.in_ok-product.product c.loop-pair-test.true
    (read_same c.args.pairs.now c.loop-pair.pair-index (0, 0) (get_or c.args.pairs.now c.loop-pair.pair-index (0, 0)) c.loop-pair-test.true) c.loop-pair.invariant c.in_ok-product.ensures.product

pub returns-clause-product : goal.returns-clause-product
returns-clause-product c =
    let rs = solved_equations c.args.space c.args.rules.now in
    c.loop-pair.invariant ∙ ap (λ x. c.args.poly *ᴾ x) (ap (product (replaced_power rs)) (all_taken c.args.pairs.now c.loop-pair.pair-index c.loop-pair-test.false) ∙ replaced_is rs c.args.pairs.now)
