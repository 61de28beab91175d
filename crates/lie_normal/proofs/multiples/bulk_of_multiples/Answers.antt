use Rattle.std.proofs.Common.{◌≡◌, ◌∙◌, ap₂, subst}
use Rattle.std.specs.Prelude.{IfOk, IfErr}
use Rattle.std.proofs.lemmas.Result.{err_from_is_err_and}
use Rattle.lie_math.specs.LinearForm.{◌+ᶠ◌}
use Rattle.lie_form.specs.FormLimits.{IsFormCoefficientCause}
use Rattle.lie_form.proofs.FormSteps.{starved_cause}
use Rattle.lie_normal.specs.TermSums.{multiples_bulk}
use Rattle.lie_normal.proofs.Bounds.{same_terms}
use Rattle.lie_normal.proofs.MultipleSteps.{bulk_twice, bulk_value}
use Rattle.lie_normal.proofs.multiples.bulk_of_multiples.Goals as goal

pub returns-in_err-factor_sizes-clause-past : goal.returns-in_err-factor_sizes-clause-past
returns-in_err-factor_sizes-clause-past c =
    let p = err_from_is_err_and c.from_residual.result c.from_residual.ensures.1 in
    rw (p.1, p.2) (starved_cause _ (multiples_bulk c.args.factor.now c.args.eq.now c.args.other_factor.now c.args.other.now) c.in_err-factor_sizes.ensures.memory)

pub returns-in_err-other_factor_sizes-clause-past : goal.returns-in_err-other_factor_sizes-clause-past
returns-in_err-other_factor_sizes-clause-past c =
    let p = err_from_is_err_and c.from_residual-in_err-other_factor_sizes.result c.from_residual-in_err-other_factor_sizes.ensures.1 in
    rw (p.1, p.2) (starved_cause _ (multiples_bulk c.args.factor.now c.args.eq.now c.args.other_factor.now c.args.other.now) c.in_err-other_factor_sizes.ensures.memory)

pub returns-in_err-terms-clause-past : goal.returns-in_err-terms-clause-past
returns-in_err-terms-clause-past c =
    let p = err_from_is_err_and c.from_residual-in_err-terms.result c.from_residual-in_err-terms.ensures.1 in
    rw (p.1, p.2) (starved_cause _ (multiples_bulk c.args.factor.now c.args.eq.now c.args.other_factor.now c.args.other.now) c.in_err-terms.ensures.memory)

pub returns-in_err-others-clause-past : goal.returns-in_err-others-clause-past
returns-in_err-others-clause-past c =
    let p = err_from_is_err_and c.from_residual-in_err-others.result c.from_residual-in_err-others.ensures.1 in
    rw (p.1, p.2) (starved_cause _ (multiples_bulk c.args.factor.now c.args.eq.now c.args.other_factor.now c.args.other.now) c.in_err-others.ensures.memory)

pub returns-clause-bulk : goal.returns-clause-bulk
returns-clause-bulk c =
    subst (λ K. IfOk c.both.result (λ bulk. bulk ≡ K)) (ap₂ ◌+ᶠ◌ (bulk_value c.args.factor.now c.in_ok-factor_sizes.factor_sizes c.args.eq.now c.terms.result.now c.as_slice.result.now c.in_ok-factor_sizes.ensures.absolute (same_terms c.terms.result.now ∙ c.terms.ensures.list) (c.as_slice.ensures.value ∙ c.in_ok-terms.ensures.sizes))
    (bulk_value c.args.other_factor.now c.in_ok-other_factor_sizes.other_factor_sizes c.args.other.now c.terms-2.result.now c.as_slice-2.result.now c.in_ok-other_factor_sizes.ensures.absolute (same_terms c.terms-2.result.now ∙ c.terms-2.ensures.list) (c.as_slice-2.ensures.value ∙ c.in_ok-others.ensures.sizes))) c.both.ensures.sum

pub returns-clause-past : goal.returns-clause-past
returns-clause-past c =
    subst (λ K. IfErr c.both.result (λ fail. IsFormCoefficientCause fail K)) (ap₂ ◌+ᶠ◌ (bulk_twice c.args.factor.now c.in_ok-factor_sizes.factor_sizes c.args.eq.now c.terms.result.now c.as_slice.result.now c.in_ok-factor_sizes.ensures.absolute (same_terms c.terms.result.now ∙ c.terms.ensures.list) (c.as_slice.ensures.value ∙ c.in_ok-terms.ensures.sizes))
    (bulk_twice c.args.other_factor.now c.in_ok-other_factor_sizes.other_factor_sizes c.args.other.now c.terms-2.result.now c.as_slice-2.result.now c.in_ok-other_factor_sizes.ensures.absolute (same_terms c.terms-2.result.now ∙ c.terms-2.ensures.list) (c.as_slice-2.ensures.value ∙ c.in_ok-others.ensures.sizes))) c.both.ensures.past
