use Rattle.std.specs.Prelude.{◌≡◌, length, List}
use Rattle.std.proofs.Common.{ap, sym, subst, ◌∙◌}
use Rattle.std.proofs.lemmas.Result.{err_from_is_err_and}
use Rattle.lie_math.specs.Counts.{Derivative}
use Rattle.lie_math.specs.PartialDerivative.{partial}
use Rattle.lie_math.specs.Polynomial.{WholePolynomial}
use Rattle.lie_jet.specs.Derivatives.{derivative_of}
use Rattle.lie_form.specs.DerivativeTerms.{derivative_terms}
use Rattle.lie_jet.specs.declared.derivative.Der.{Der}
use Rattle.std.proofs.lemmas.List.{length-map}
use Rattle.lie_jet.proofs.TotalSteps.{if_err}
use Rattle.lie_reduce.specs.Applications.{sides}
use Rattle.lie_ring.specs.Causes.{IsCause}
use Rattle.lie_reduce.proofs.Differences.{absolute_sides}
use Rattle.lie_determining.proofs.AppliedForms.{no_products, slope_cause, same_slope}
use Rattle.lie_determining.proofs.symbolic_application.put_multiple.Goals as goal

same_length : (ts : List (Der × WholePolynomial)) (es : List (Derivative × WholePolynomial)) → derivative_terms ts ≡ es → length es ≡ length ts
same_length ts es all = ap length (sym all) ∙ length-map ts (λ (t : Der × WholePolynomial). (derivative_of t.0, t.1))

pub returns-then-terms-eq0-clause-sum : goal.returns-then-terms-eq0-clause-sum
returns-then-terms-eq0-clause-sum c = no_products c.args.sum.now c.args.form.now (partial c.args.w (sides c.args.lead c.args.rule.now.c c.args.sign c.args.rule.now.right)) (same_length c.terms.result.now c.args.form.now.list c.terms.ensures ∙ c.if-terms-eq0.true)

pub returns-in_err-slope-clause-past : goal.returns-in_err-slope-clause-past
returns-in_err-slope-clause-past c =
    let p = err_from_is_err_and c.from_residual.result c.from_residual.ensures.1 in
    rw (p.1, p.2) (slope_cause _ c.args.sum.now c.args.form.now c.args.w (sides c.args.lead c.args.rule.now.c c.args.sign c.args.rule.now.right) (λ e. c.if-terms-eq0.false (sym (same_length c.terms.result.now c.args.form.now.list c.terms.ensures) ∙ e)) (subst (λ p. IsCause c.in_err-slope.field-0.0 (partial c.args.w p)) (sym (absolute_sides c.args.lead c.args.rule.now.c c.args.sign c.args.rule.now.right c.requires.unit c.requires.free)) c.in_err-slope.ensures.past))

pub returns-clause-past : goal.returns-clause-past
returns-clause-past c = if_err c.put_products.result (λ fail h. same_slope fail c.args.sum.now c.args.form.now c.args.w (sides c.args.lead c.args.rule.now.c c.args.sign c.args.rule.now.right) c.in_ok-slope.slope c.in_ok-slope.ensures.slope h) c.put_products.ensures.past
