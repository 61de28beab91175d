use Rattle.std.proofs.Common.{◌∙◌, ap, subst}
use Rattle.std.proofs.lemmas.Result.{err_from_is_err_and}
use Rattle.lie_math.specs.Limits.{absolute}
use Rattle.lie_math.specs.LinearForm.{LinearForm, ◌+ᶠ◌, each_coefficient}
use Rattle.lie_form.specs.DerivativeTerms.{derivative_terms}
use Rattle.lie_form.specs.FormLimits.{IsFormCoefficientCause}
use Rattle.lie_form.proofs.FormBounds.{over_entries}
use Rattle.lie_normal.specs.TermSums.{multiple_term}
use Rattle.lie_normal.proofs.MultipleSteps.{first_cause, other_cause, both_sum, with_sizes}
use Rattle.lie_normal.proofs.multiples.both.Goals as goal

pub returns-in_err-put_multiple-clause-past : goal.returns-in_err-put_multiple-clause-past
returns-in_err-put_multiple-clause-past c =
    let p = err_from_is_err_and c.from_residual.result c.from_residual.ensures.1 in
    rw (p.1, p.2) (first_cause c.args.factor.now c.args.other_factor.now (derivative_terms c.args.terms.now) (derivative_terms c.args.others.now) _ (subst (λ (S : LinearForm). IsFormCoefficientCause c.in_err-put_multiple.field-0.0 (each_coefficient absolute S +ᶠ over_entries (with_sizes c.args.factor.now) (derivative_terms c.args.terms.now))) c.zero-sum.ensures c.in_err-put_multiple.ensures.past))

pub returns-in_err-put_multiple-2-clause-past : goal.returns-in_err-put_multiple-2-clause-past
returns-in_err-put_multiple-2-clause-past c =
    let p = err_from_is_err_and c.from_residual-in_err-put_multiple-2.result c.from_residual-in_err-put_multiple-2.ensures.1 in
    rw (p.1, p.2) (other_cause c.args.factor.now c.args.other_factor.now (derivative_terms c.args.terms.now) (derivative_terms c.args.others.now) _ c.put_multiple.new.sum (c.in_ok-put_multiple.ensures.sum ∙ ap (λ (S : LinearForm). S +ᶠ over_entries (multiple_term c.args.factor.now) (derivative_terms c.args.terms.now)) c.zero-sum.ensures) c.in_err-put_multiple-2.ensures.past)

pub returns-clause-sum : goal.returns-clause-sum
returns-clause-sum c = both_sum c.args.factor.now c.args.other_factor.now (derivative_terms c.args.terms.now) (derivative_terms c.args.others.now) c.put_multiple.new.sum c.put_multiple-2.new.sum (c.in_ok-put_multiple.ensures.sum ∙ ap (λ (S : LinearForm). S +ᶠ over_entries (multiple_term c.args.factor.now) (derivative_terms c.args.terms.now)) c.zero-sum.ensures) c.in_ok-put_multiple-2.ensures.sum
