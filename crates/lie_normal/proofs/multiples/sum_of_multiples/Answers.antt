use Rattle.std.proofs.Common.{◌∙◌, ap, ap₂, subst}
use Rattle.std.proofs.lemmas.Result.{err_from_is_err_and}
use Rattle.lie_math.specs.LinearForm.{◌+ᶠ◌}
use Rattle.lie_systems.specs.Bulk.{IsFormWithinLimits}
use Rattle.lie_form.specs.FormLimits.{IsFormCause, IsFormCoefficientCause}
use Rattle.lie_form.proofs.FormBounds.{over_entries}
use Rattle.lie_form.proofs.FormCauses.{coefficient_cause}
use Rattle.lie_normal.specs.TermSums.{multiple_term, multiples_bulk}
use Rattle.lie_normal.proofs.Bounds.{same_terms, kept_form, kept_coefficients}
use Rattle.lie_normal.proofs.MultipleSteps.{plain_bulk}
use Rattle.lie_normal.proofs.multiples.sum_of_multiples.Goals as goal

pub returns-in_err-bulk-clause-past : goal.returns-in_err-bulk-clause-past
returns-in_err-bulk-clause-past c =
    let p = err_from_is_err_and c.from_residual.result c.from_residual.ensures.1 in
    rw (p.1, p.2) (coefficient_cause _ (multiples_bulk c.args.factor.now c.args.eq.now c.args.other_factor.now c.args.other.now) c.in_err-bulk.ensures.past)

pub returns-in_err-within_limits-clause-past : goal.returns-in_err-within_limits-clause-past
returns-in_err-within_limits-clause-past c =
    let p = err_from_is_err_and c.from_residual-in_err-within_limits.result c.from_residual-in_err-within_limits.ensures.1 in
    rw (p.1, p.2) (subst (IsFormCause _) c.in_ok-bulk.ensures.bulk c.in_err-within_limits.ensures.past)

pub returns-in_err-sum-clause-past : goal.returns-in_err-sum-clause-past
returns-in_err-sum-clause-past c =
    let p = err_from_is_err_and c.from_residual-in_err-sum.result c.from_residual-in_err-sum.ensures.1 in
    rw (p.1, p.2) (coefficient_cause _ (multiples_bulk c.args.factor.now c.args.eq.now c.args.other_factor.now c.args.other.now) (subst (IsFormCoefficientCause _) (ap₂ ◌+ᶠ◌ (plain_bulk c.args.factor.now c.args.eq.now c.terms.result.now (same_terms c.terms.result.now ∙ c.terms.ensures.list)) (plain_bulk c.args.other_factor.now c.args.other.now c.terms-2.result.now (same_terms c.terms-2.result.now ∙ c.terms-2.ensures.list))) c.in_err-sum.ensures.past))

pub of_terms-requires : goal.of_terms-requires
of_terms-requires c = kept_coefficients c.in_ok-sum.sum c.into_terms.result.items c.into_terms.ensures

pub returns-clause-sum : goal.returns-clause-sum
returns-clause-sum c =
    kept_form c.of_terms.result c.in_ok-sum.sum c.into_terms.result.items c.of_terms.ensures c.into_terms.ensures ∙ c.in_ok-sum.ensures.sum
    ∙ ap₂ ◌+ᶠ◌ (ap (over_entries (multiple_term c.args.factor.now)) (same_terms c.terms.result.now ∙ c.terms.ensures.list)) (ap (over_entries (multiple_term c.args.other_factor.now)) (same_terms c.terms-2.result.now ∙ c.terms-2.ensures.list))

pub returns-clause-fits : goal.returns-clause-fits
returns-clause-fits c = subst IsFormWithinLimits c.in_ok-bulk.ensures.bulk c.in_ok-within_limits.ensures.fits
