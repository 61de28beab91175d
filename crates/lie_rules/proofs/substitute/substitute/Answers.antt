use Rattle.std.proofs.Common.{◌∙◌, ap, subst}
use Rattle.std.specs.Prelude.{neg_ℤ}
use Rattle.std.proofs.lemmas.Result.{err_from_is_err_and, on_ok_weaker, IfErr-weaker}
use Rattle.lie_math.specs.LinearForm.{LinearForm, times_form}
use Rattle.lie_math.specs.Polynomial.{constant}
use Rattle.lie_systems.specs.Bulk.{IsFormWithinLimits}
use Rattle.lie_systems.specs.Normalised.{sign}
use Rattle.lie_form.specs.FormLimits.{IsFormCause}
use Rattle.lie_jet.specs.Derivatives.{derivative_of}
use Rattle.lie_steps.specs.Bulks.{absolute_form}
use Rattle.lie_rules.proofs.SubstituteSteps.{substitute_occurs, solution_cause, kept_free, kept_stays, kept_after, kept_cause, kept_within}
use Rattle.lie_rules.proofs.substitute.substitute.Goals as goal

pub returns-in_err-form-clause-past : goal.returns-in_err-form-clause-past
returns-in_err-form-clause-past c =
    let p = err_from_is_err_and c.from_residual.result c.from_residual.ensures.1 in
    rw (p.1, p.2) (solution_cause _ c.args.system.now.system c.system_is_valid.ensures.valid c.args.place
    (derivative_of c.args.solved.now.der) c.args.solved.now.number c.requires.is.0 c.in_err-form.field-0.0
    (subst (λ (E : LinearForm). IsFormCause c.in_err-form.field-0.0
    (absolute_form (times_form (constant (neg_ℤ (sign c.args.solved.now.number))) E))) c.requires.is.1 c.in_err-form.ensures.past))

pub eliminate_divided-requires-clause-own : goal.eliminate_divided-requires-clause-own
eliminate_divided-requires-clause-own c =
    substitute_occurs _ c.args.system.now.system c.system_is_valid.ensures.valid c.args.place
    (derivative_of c.args.solved.now.der) c.args.solved.now.number c.requires.is.0

pub eliminate_divided-requires-clause-free : goal.eliminate_divided-requires-clause-free
eliminate_divided-requires-clause-free c =
    kept_free _ c.args.system.now.system c.system_is_valid.ensures.valid c.args.place
    (derivative_of c.args.solved.now.der) c.args.solved.now.number c.requires.is.0 c.in_ok-form.form c.absolute-divisor.result
    (c.in_ok-form.ensures.solution
    ∙ ap (times_form (constant (neg_ℤ (sign c.args.solved.now.number)))) c.requires.is.1) c.absolute-divisor.ensures

pub eliminate_divided-requires-clause-valid : goal.eliminate_divided-requires-clause-valid
eliminate_divided-requires-clause-valid c =
    kept_stays _ c.args.system.now.system c.system_is_valid.ensures.valid c.args.place
    (derivative_of c.args.solved.now.der) c.args.solved.now.number c.requires.is.0 c.in_ok-form.form c.absolute-divisor.result
    (c.in_ok-form.ensures.solution
    ∙ ap (times_form (constant (neg_ℤ (sign c.args.solved.now.number)))) c.requires.is.1) c.absolute-divisor.ensures

pub returns-clause-after : goal.returns-clause-after
returns-clause-after c =
    on_ok_weaker c.eliminate_divided.result
    (kept_after _ c.args.system.now.system c.system_is_valid.ensures.valid c.args.place
    (derivative_of c.args.solved.now.der) c.args.solved.now.number c.requires.is.0 c.in_ok-form.form c.absolute-divisor.result
    (c.in_ok-form.ensures.solution
    ∙ ap (times_form (constant (neg_ℤ (sign c.args.solved.now.number)))) c.requires.is.1) c.absolute-divisor.ensures
    c.eliminate_divided.new.system.system)
    c.eliminate_divided.ensures.tidied

pub returns-clause-fits : goal.returns-clause-fits
returns-clause-fits c =
    on_ok_weaker c.eliminate_divided.result
    (kept_within _ c.args.system.now.system c.system_is_valid.ensures.valid c.args.place
    (derivative_of c.args.solved.now.der) c.args.solved.now.number c.requires.is.0 c.in_ok-form.form c.absolute-divisor.result
    (c.in_ok-form.ensures.solution
    ∙ ap (times_form (constant (neg_ℤ (sign c.args.solved.now.number)))) c.requires.is.1) c.absolute-divisor.ensures
    (subst (λ (E : LinearForm). IsFormWithinLimits (absolute_form (times_form (constant (neg_ℤ (sign c.args.solved.now.number))) E)))
    c.requires.is.1 c.in_ok-form.ensures.fits) c.fits.ensures)
    c.eliminate_divided.ensures.fits

pub returns-clause-past : goal.returns-clause-past
returns-clause-past c =
    IfErr-weaker c.eliminate_divided.result _ _
    (kept_cause _ c.args.system.now.system c.system_is_valid.ensures.valid c.args.place
    (derivative_of c.args.solved.now.der) c.args.solved.now.number c.requires.is.0 c.in_ok-form.form c.absolute-divisor.result
    (c.in_ok-form.ensures.solution
    ∙ ap (times_form (constant (neg_ℤ (sign c.args.solved.now.number)))) c.requires.is.1) c.absolute-divisor.ensures)
    c.eliminate_divided.ensures.past
