use Rattle.std.proofs.Common.{ap, sym, ◌∙◌}
use Rattle.std.proofs.lemmas.Result.{err_from_is_err_and}
use Rattle.lie_math.specs.Limits.{absolute}
use Rattle.lie_math.specs.PartialDerivative.{partial}
use Rattle.lie_math.specs.Polynomial.{◌+ᴾ◌, ◌*ᴾ◌}
use Rattle.lie_math.specs.PolynomialRing.{polynomial_of-none}
use Rattle.lie_jet.specs.Listed.{sum_listed, bulk_listed}
use Rattle.lie_jet.proofs.TotalSteps.{if_err}
use Rattle.lie_reduce.specs.Applications.{sides}
use Rattle.lie_reduce.proofs.ApplicationSteps.{applied_more, sized, sized_more, sized_cause, part_of_all}
use Rattle.lie_reduce.proofs.application.applied.Goals as goal
use Rattle.lie_ring.proofs.Fronts.{all_taken}

pub loop-coefficient-init : goal.loop-coefficient-init
loop-coefficient-init c = (ap sum_listed c.new-made.ensures.items ∙ polynomial_of-none, ap bulk_listed c.new-made.ensures.items ∙ polynomial_of-none)

pub returns-in_err-push_part-clause-past : goal.returns-in_err-push_part-clause-past
returns-in_err-push_part-clause-past c =
    let p = err_from_is_err_and c.from_residual.result c.from_residual.ensures.1 in
    rw (p.1, p.2) (part_of_all c.args.lead c.args.rule.now.c c.args.sign c.args.rule.now.right c.requires.unit c.in_err-push_part.field-0.0 c.args.coefficients.now c.loop-coefficient.coefficient-index c.coefficient-item.result c.loop-coefficient-test.true c.coefficient-item.is c.in_err-push_part.ensures.past)

pub loop-coefficient-preserved : goal.loop-coefficient-preserved
loop-coefficient-preserved c =
    let P = sides c.args.lead c.args.rule.now.c c.args.sign c.args.rule.now.right in (
      c.in_ok-push_part.ensures.sum ∙ ap (λ q. q +ᴾ c.coefficient-item.result.1 *ᴾ partial c.coefficient-item.result.0 P) c.loop-coefficient.invariant.0 ∙ sym (applied_more c.args.coefficients.now c.loop-coefficient.coefficient-index c.coefficient-item.result P c.loop-coefficient-test.true c.coefficient-item.is),
      c.in_ok-push_part.ensures.bulk ∙ ap (λ q. q +ᴾ absolute (c.coefficient-item.result.1 *ᴾ partial c.coefficient-item.result.0 P)) c.loop-coefficient.invariant.1 ∙ sym (sized_more c.args.lead c.args.rule.now.c c.args.sign c.args.rule.now.right c.args.coefficients.now c.loop-coefficient.coefficient-index c.coefficient-item.result c.loop-coefficient-test.true c.coefficient-item.is),
    )

pub returns-clause-past : goal.returns-clause-past
returns-clause-past c =
    if_err c.of_terms.result (λ fail q. sized_cause c.args.lead c.args.rule.now.c c.args.sign c.args.rule.now.right c.requires.unit fail c.args.coefficients.now (bulk_listed c.as_slice.result.now)
    (ap bulk_listed c.as_slice.ensures.value ∙ c.loop-coefficient.invariant.1 ∙ ap (sized c.args.lead c.args.rule.now.c c.args.sign c.args.rule.now.right) (all_taken c.args.coefficients.now c.loop-coefficient.coefficient-index c.loop-coefficient-test.false)) q) c.of_terms.ensures.past
