use Rattle.std.proofs.Common.{◌≡◌, ◌∙◌, sym, ap, map, refl, subst, true≢false, List}
use Rattle.std.specs.List.{AllByRecursion as Every}
use Rattle.std.proofs.lemmas.Result.{err_from_is_err_and}
use Rattle.lie_math.specs.LinearForm.{LinearForm}
use Rattle.lie_math.specs.LinearSystem.{Unknown}
use Rattle.lie_math.specs.Polynomial.{WholePolynomial}
use Rattle.lie_systems.specs.Bulk.{IsFormWithinLimits}
use Rattle.lie_jet.specs.declared.derivative.Der.{Der}
use Rattle.lie_form.specs.DerivativeTerms.{derivative_terms}
use Rattle.lie_form.specs.FormLimits.{IsFormCause, IsFormCoefficientCause}
use Rattle.lie_form.proofs.FormBounds.{over_entries}
use Rattle.lie_form.proofs.FormCauses.{coefficient_cause}
use Rattle.lie_form.proofs.FormParts.{kept_absolutes}
use Rattle.lie_lin.specs.Systems.{unknown_of}
use Rattle.lie_steps.specs.Bulks.{absolute_form, derivative_bulk}
use Rattle.lie_normal.specs.Orders.{StaysLow}
use Rattle.lie_normal.specs.TermSums.{derivative_term}
use Rattle.lie_normal.proofs.Bounds.{same_terms, cause_of_sizes, cause_of_terms, bulk_of_sizes, kept_form, kept_coefficients}
use Rattle.lie_normal.proofs.DerivativeSteps.{term_bound}
use Rattle.lie_normal.proofs.DerivedForms.{derivative_is, rises_cause, stays_sizes}
use Rattle.lie_normal.proofs.derivative.derive.Goals as goal

pub returns-then-rises_high-clause-past : goal.returns-then-rises_high-clause-past
returns-then-rises_high-clause-past c =
    rises_cause (map unknown_of c.args.unknowns.now) c.args.var c.args.eq.now (derivative_terms c.terms-terms.result.now) (same_terms c.terms-terms.result.now ∙ c.terms-terms.ensures.list) (c.if-rises_high.ensures.high refl)

pub sum_of_derivatives-requires-clause-low : goal.sum_of_derivatives-requires-clause-low
sum_of_derivatives-requires-clause-low c =
    subst (λ (ts : List (Der × WholePolynomial)). Every (StaysLow (map unknown_of c.args.unknowns.now) c.args.var) (derivative_terms ts)) (sym (c.as_slice.ensures.value ∙ c.in_ok-sizes.ensures.sizes))
    (stays_sizes (map unknown_of c.args.unknowns.now) c.args.var c.terms-terms.result.now (c.if-rises_high.ensures.low (λ e. true≢false (sym e))))

pub returns-in_err-bulk-clause-past : goal.returns-in_err-bulk-clause-past
returns-in_err-bulk-clause-past c =
    let p = err_from_is_err_and c.from_residual-in_err-bulk.result c.from_residual-in_err-bulk.ensures.1 in
    rw (p.1, p.2) (coefficient_cause _ (derivative_bulk (map unknown_of c.args.unknowns.now) c.args.var c.args.eq.now) (subst (IsFormCoefficientCause _) (sym (derivative_is (map unknown_of c.args.unknowns.now) c.args.var (absolute_form c.args.eq.now)))
    (cause_of_sizes (derivative_term (map unknown_of c.args.unknowns.now) c.args.var) (term_bound (map unknown_of c.args.unknowns.now) c.args.var) _ c.args.eq.now c.as_slice.result.now c.terms-terms.result.now (same_terms c.terms-terms.result.now ∙ c.terms-terms.ensures.list) (c.as_slice.ensures.value ∙ c.in_ok-sizes.ensures.sizes) c.in_err-bulk.ensures.past)))

pub returns-in_err-sum-clause-past : goal.returns-in_err-sum-clause-past
returns-in_err-sum-clause-past c =
    let p = err_from_is_err_and c.from_residual-in_err-sum.result c.from_residual-in_err-sum.ensures.1 in
    rw (p.1, p.2) (coefficient_cause _ (derivative_bulk (map unknown_of c.args.unknowns.now) c.args.var c.args.eq.now) (subst (IsFormCoefficientCause _) (sym (derivative_is (map unknown_of c.args.unknowns.now) c.args.var (absolute_form c.args.eq.now)))
    (cause_of_terms (derivative_term (map unknown_of c.args.unknowns.now) c.args.var) (term_bound (map unknown_of c.args.unknowns.now) c.args.var) _ c.args.eq.now c.terms-terms.result.now (same_terms c.terms-terms.result.now ∙ c.terms-terms.ensures.list) c.in_err-sum.ensures.past)))

made_bulk : (us : List Unknown) (i : _) (E B : LinearForm) (kept ts : List (Der × WholePolynomial)) → derivative_terms ts ≡ E.list → kept ≡ kept_absolutes ts → B ≡ over_entries (derivative_term us i) (derivative_terms kept) → B ≡ derivative_bulk us i E
made_bulk us i E B kept ts all e is = bulk_of_sizes (derivative_term us i) (term_bound us i) E B kept ts all e is ∙ sym (derivative_is us i (absolute_form E))

pub returns-in_err-within_limits-clause-past : goal.returns-in_err-within_limits-clause-past
returns-in_err-within_limits-clause-past c =
    let b = made_bulk (map unknown_of c.args.unknowns.now) c.args.var c.args.eq.now c.in_ok-bulk.bulk c.as_slice.result.now c.terms-terms.result.now (same_terms c.terms-terms.result.now ∙ c.terms-terms.ensures.list) (c.as_slice.ensures.value ∙ c.in_ok-sizes.ensures.sizes) c.in_ok-bulk.ensures.sum in
    let p = err_from_is_err_and c.from_residual-in_err-within_limits.result c.from_residual-in_err-within_limits.ensures.1 in
    rw (p.1, p.2) (subst (IsFormCause _) b c.in_err-within_limits.ensures.past)

pub returns-clause-fits : goal.returns-clause-fits
returns-clause-fits c =
    let b = made_bulk (map unknown_of c.args.unknowns.now) c.args.var c.args.eq.now c.in_ok-bulk.bulk c.as_slice.result.now c.terms-terms.result.now (same_terms c.terms-terms.result.now ∙ c.terms-terms.ensures.list) (c.as_slice.ensures.value ∙ c.in_ok-sizes.ensures.sizes) c.in_ok-bulk.ensures.sum in
    subst IsFormWithinLimits b c.in_ok-within_limits.ensures.fits

pub of_terms-requires : goal.of_terms-requires
of_terms-requires c = kept_coefficients c.in_ok-sum.sum c.into_terms.result.items c.into_terms.ensures

pub returns-clause-derivative : goal.returns-clause-derivative
returns-clause-derivative c =
    kept_form c.of_terms.result c.in_ok-sum.sum c.into_terms.result.items c.of_terms.ensures c.into_terms.ensures ∙ c.in_ok-sum.ensures.sum
    ∙ ap (over_entries (derivative_term (map unknown_of c.args.unknowns.now) c.args.var)) (same_terms c.terms-terms.result.now ∙ c.terms-terms.ensures.list) ∙ sym (derivative_is (map unknown_of c.args.unknowns.now) c.args.var c.args.eq.now)
