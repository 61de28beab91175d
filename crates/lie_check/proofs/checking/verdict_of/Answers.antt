use Rattle.std.proofs.Common.{◌≡◌, ◌+◌, suc, ap, ◌∙◌, subst, arith}
use Rattle.std.proofs.lemmas.Result.{err_from_is_err_and}
use Rattle.lie_math.specs.Limits.{IsWithinLimits}
use Rattle.lie_math.specs.VectorField.{component}
use Rattle.lie_geometry.specs.Coordinates.{coordinates_up_to}
use Rattle.lie_geometry.specs.SolvedEquations.{reduced}
use Rattle.lie_ring.specs.Causes.{IsCause}
use Rattle.lie_solved.specs.SolvedForms.{solved_equation, solved_equations}
use Rattle.lie_check.specs.Coefficients.{coefficients_among}
use Rattle.lie_reduce.specs.Bulks.{reduction_bulk}
use Rattle.lie_check.proofs.AppliedFields.{application_is, application_bulk_is, rule_among}
use Rattle.lie_check.proofs.CheckSteps.{coefficient_cause, applied_cause, reduced_cause, checked_more, all_checked, verdict_more}
use Rattle.lie_reduce.proofs.GreatestVariables.{rule_ready}
use Rattle.lie_reduce.proofs.AbsoluteRules.{can_reduce}
use Rattle.lie_check.proofs.checking.verdict_of.Goals as goal

pub returns-in_err-coefficients-clause-past : goal.returns-in_err-coefficients-clause-past
returns-in_err-coefficients-clause-past c =
    let S = c.args.space in
    let V = component c.args.field.now in
    let rs = solved_equations S c.args.rules.now in
    let p = err_from_is_err_and c.from_residual-in_err-coefficients.result c.from_residual-in_err-coefficients.ensures.1 in
    rw (p.1, p.2) (coefficient_cause S V c.args.rules.now c.in_ok-order.order _ c.in_ok-order.ensures.order c.in_err-coefficients.ensures.past)

pub applied_field-requires-clause-free : goal.applied_field-requires-clause-free
applied_field-requires-clause-free c =
    (rule_ready c.args.space c.args.rules.now c.loop-i.i c.index-rules-i.result c.requires.rules c.loop-i-test.true c.index-rules-i.is).free

pub applied_field-requires-clause-jet : goal.applied_field-requires-clause-jet
applied_field-requires-clause-jet c =
    let r = c.index-rules-i.result in
    let ready = rule_ready c.args.space c.args.rules.now c.loop-i.i r c.requires.rules c.loop-i-test.true c.index-rules-i.is in
    let j = ready.jet in
    record { space = j.space; dependent = j.dependent; four = j.four; rest = j.rest; low = (let l = j.low in omega arith) }

pub returns-in_err-applied-clause-past : goal.returns-in_err-applied-clause-past
returns-in_err-applied-clause-past c =
    let S = c.args.space in
    let V = component c.args.field.now in
    let rs = solved_equations S c.args.rules.now in
    let r = c.index-rules-i.result in
    let ready = rule_ready S c.args.rules.now c.loop-i.i r c.requires.rules c.loop-i-test.true c.index-rules-i.is in
    let ns = c.as_slice.result.now in
    let occurs = rule_among S c.args.rules.now c.in_ok-numbers.numbers.items ns c.loop-i.i r c.in_ok-numbers.ensures c.as_slice.ensures.value c.loop-i-test.true c.index-rules-i.is in
    let cs = c.as_slice-in-loop-i.ensures.value ∙ c.in_ok-coefficients.ensures.coefficients ∙ ap (λ n. coefficients_among S V ns (coordinates_up_to S n)) c.in_ok-order.ensures.order in
    let p = err_from_is_err_and c.from_residual-in_err-applied.result c.from_residual-in_err-applied.ensures.1 in
    rw (p.1, p.2) (applied_cause S V c.args.rules.now c.loop-i.i r c.loop-i-test.true c.index-rules-i.is _ (subst (IsCause c.in_err-applied.field-0.0) (application_bulk_is S rs V (solved_equation S r) ns occurs c.as_slice-in-loop-i.result.now ready.free cs) c.in_err-applied.ensures.past))

pub remainder-requires : goal.remainder-requires
remainder-requires c =
    can_reduce c.args.space c.args.rules.now c.requires.rules

pub returns-in_err-rest-clause-past : goal.returns-in_err-rest-clause-past
returns-in_err-rest-clause-past c =
    let S = c.args.space in
    let V = component c.args.field.now in
    let rs = solved_equations S c.args.rules.now in
    let r = c.index-rules-i.result in
    let ready = rule_ready S c.args.rules.now c.loop-i.i r c.requires.rules c.loop-i-test.true c.index-rules-i.is in
    let ns = c.as_slice.result.now in
    let occurs = rule_among S c.args.rules.now c.in_ok-numbers.numbers.items ns c.loop-i.i r c.in_ok-numbers.ensures c.as_slice.ensures.value c.loop-i-test.true c.index-rules-i.is in
    let cs = c.as_slice-in-loop-i.ensures.value ∙ c.in_ok-coefficients.ensures.coefficients ∙ ap (λ n. coefficients_among S V ns (coordinates_up_to S n)) c.in_ok-order.ensures.order in
    let value = c.in_ok-applied.ensures.value ∙ application_is S rs V (solved_equation S r) ns occurs c.as_slice-in-loop-i.result.now cs in
    let p = err_from_is_err_and c.from_residual-in_err-rest.result c.from_residual-in_err-rest.ensures.1 in
    rw (p.1, p.2) (reduced_cause S V c.args.rules.now c.loop-i.i r c.loop-i-test.true c.index-rules-i.is _ (subst (λ P. IsCause c.in_err-rest.field-0.0 (reduction_bulk rs P)) value c.in_err-rest.ensures.past))

pub loop-i-preserved : goal.loop-i-preserved
loop-i-preserved c =
    let S = c.args.space in
    let V = component c.args.field.now in
    let rs = solved_equations S c.args.rules.now in
    let r = c.index-rules-i.result in
    let ready = rule_ready S c.args.rules.now c.loop-i.i r c.requires.rules c.loop-i-test.true c.index-rules-i.is in
    let ns = c.as_slice.result.now in
    let occurs = rule_among S c.args.rules.now c.in_ok-numbers.numbers.items ns c.loop-i.i r c.in_ok-numbers.ensures c.as_slice.ensures.value c.loop-i-test.true c.index-rules-i.is in
    let cs = c.as_slice-in-loop-i.ensures.value ∙ c.in_ok-coefficients.ensures.coefficients ∙ ap (λ n. coefficients_among S V ns (coordinates_up_to S n)) c.in_ok-order.ensures.order in
    let value = c.in_ok-applied.ensures.value ∙ application_is S rs V (solved_equation S r) ns occurs c.as_slice-in-loop-i.result.now cs in
    record {
      verdict = verdict_more S V c.args.rules.now c.loop-i.i r c.loop-i-test.true c.index-rules-i.is (c.loop-i.i + 1) c.loop-i.verdict c.first_failure-verdict.result c.in_ok-rest.rest (let e : c.loop-i.i + 1 ≡ suc c.loop-i.i = omega arith in e) (c.in_ok-rest.ensures.value ∙ ap (reduced rs) value) c.first_failure-verdict.ensures c.loop-i.invariant.verdict;
      done = checked_more S V c.args.rules.now c.loop-i.i r c.loop-i-test.true c.index-rules-i.is c.loop-i.invariant.done (record {
        applied = subst IsWithinLimits (application_bulk_is S rs V (solved_equation S r) ns occurs c.as_slice-in-loop-i.result.now ready.free cs) c.in_ok-applied.ensures.fits;
        reduced = subst (λ P. IsWithinLimits (reduction_bulk rs P)) value c.in_ok-rest.ensures.fits;
      });
    }

pub returns-clause-fits : goal.returns-clause-fits
returns-clause-fits c =
    all_checked c.args.space (component c.args.field.now) c.args.rules.now c.in_ok-order.order c.loop-i.i c.in_ok-order.ensures.order c.in_ok-coefficients.ensures.fits c.loop-i-test.false c.loop-i.invariant.done
