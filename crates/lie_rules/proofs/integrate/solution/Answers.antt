use Rattle.std.proofs.Common.{◌≡◌, ◌∙◌, ap, ap₂, subst, sym}
use Rattle.std.specs.Prelude.{◌⊎◌, unsigned_abs}
use Rattle.std.proofs.lemmas.Result.{err_from_is_err_and}
use Rattle.lie_math.specs.Counts.{Derivative}
use Rattle.lie_math.specs.FiniteSum as finite
use Rattle.lie_math.specs.LinearForm.{LinearForm, forms, ◌+ᶠ◌}
use Rattle.lie_math.specs.Polynomial.{0ᴾ}
use Rattle.lie_systems.specs.Bulk.{IsFormWithinLimits}
use Rattle.lie_systems.specs.Triples.{triples}
use Rattle.lie_form.specs.FormLimits.{IsFormCause}
use Rattle.lie_lin.specs.Forms.{triples_of}
use Rattle.lie_steps.specs.Bulks.{absolute_form}
use Rattle.lie_steps.specs.Integrate.{integral}
use Rattle.lie_integral.specs.Integrals.{IsDenominator, IsWide}
use Rattle.lie_integral.proofs.IntegralNumbers.{least_of}
use Rattle.lie_rules.proofs.IntegrationSteps.{wide_cause, integral_apart, sum_cause, part_cause, integral_is}
use Rattle.lie_rules.proofs.integrate.solution.Goals as goal
use Rattle.lie_rules.proofs.integrate.solution.Goals.{In-Some, After-as_slice}

listed : (c : After-as_slice) → triples_of c.as_slice.result.now ≡ triples (c.args.found.now).rest
listed c = ap triples_of c.as_slice.ensures.value ∙ c.in_ok-list.ensures

denominator : (c : In-Some) → IsDenominator (c.args.found.now).integration.number (c.args.found.now).integration.var
    (c.args.found.now).integration.times (triples (c.args.found.now).rest) c.in-Some.divisor
denominator c =
    subst (λ ts. IsDenominator (c.args.found.now).integration.number (c.args.found.now).integration.var
    (c.args.found.now).integration.times ts c.in-Some.divisor)
    (ap triples_of c.as_slice.ensures.value ∙ c.in_ok-list.ensures) c.in-Some.ensures

pub returns-in-None-clause-past : goal.returns-in-None-clause-past
returns-in-None-clause-past c =
    let k = (goal.at.returns-in-None-clause-past c).After-as_slice in
    wide_cause c.args.found.now c.args.next c.args.powers.now c.requires.apart c.requires.older
    (subst (IsWide (c.args.found.now).integration.number (c.args.found.now).integration.var (c.args.found.now).integration.times)
    (listed k) c.in-None.ensures)

pub integral_of-requires-clause-clears : goal.integral_of-requires-clause-clears
integral_of-requires-clause-clears c =
    let k = (goal.at.integral_of-requires-clause-clears c).In-Some in
    (least_of (c.args.found.now).integration.number (c.args.found.now).integration.var (c.args.found.now).integration.times
    (triples (c.args.found.now).rest) c.in-Some.divisor (denominator k)).clears

pub returns-in_err-integral-clause-past : goal.returns-in_err-integral-clause-past
returns-in_err-integral-clause-past c =
    let k = (goal.at.returns-in_err-integral-clause-past c).In-Some in
    let p = err_from_is_err_and c.from_residual-in_err-integral.result c.from_residual-in_err-integral.ensures.1 in
    rw (p.1, p.2) (part_cause c.args.found.now c.args.next c.args.powers.now c.requires.apart c.requires.older c.in-Some.divisor
    (denominator k) c.in_err-integral.field-0.0 c.in_err-integral.ensures.past)

pub sum_of-requires : goal.sum_of-requires
sum_of-requires c =
    let k = (goal.at.sum_of-requires c).In-Some in
    subst (λ (E : LinearForm). (d : Derivative) → (finite.value forms E d ≡ 0ᴾ) ⊎ (finite.value forms c.in_ok-powers.powers d ≡ 0ᴾ))
    (sym c.in_ok-integral.ensures.integral)
    (subst (λ (F : LinearForm). (d : Derivative)
    → (finite.value forms (integral (c.args.found.now).integration.number (c.args.found.now).integration.var
    (c.args.found.now).integration.times (unsigned_abs c.in-Some.divisor) (c.args.found.now).rest) d ≡ 0ᴾ)
    ⊎ (finite.value forms F d ≡ 0ᴾ)) (sym c.in_ok-powers.ensures)
    (integral_apart c.args.found.now c.args.next c.args.powers.now c.requires.apart c.requires.older c.in-Some.divisor (denominator k)))

pub returns-in_err-form-clause-past : goal.returns-in_err-form-clause-past
returns-in_err-form-clause-past c =
    let k = (goal.at.returns-in_err-form-clause-past c).In-Some in
    let p = err_from_is_err_and c.from_residual-in_err-form.result c.from_residual-in_err-form.ensures.1 in
    rw (p.1, p.2) (sum_cause c.args.found.now c.args.next c.args.powers.now c.requires.apart c.requires.older c.in-Some.divisor
    (denominator k) c.in_err-form.field-0.0
    (subst (λ (E : LinearForm). IsFormCause c.in_err-form.field-0.0 (absolute_form E))
    (ap₂ ◌+ᶠ◌ c.in_ok-integral.ensures.integral c.in_ok-powers.ensures) c.in_err-form.ensures.past))

pub returns : goal.returns
returns c =
    let k = (goal.at.returns c).In-Some in
    record {
      solution = integral_is c.args.found.now c.args.next c.args.powers.now c.requires.apart c.requires.older c.in-Some.divisor
          (denominator k) c.in_ok-form.form (c.in_ok-form.ensures.sum ∙ ap₂ ◌+ᶠ◌ c.in_ok-integral.ensures.integral c.in_ok-powers.ensures);
      fits = (
        subst (λ (E : LinearForm). IsFormWithinLimits (absolute_form E)) (sym c.in_ok-form.ensures.sum) c.in_ok-form.ensures.fits,
        c.fits.ensures,
      );
      past = tt;
    }
