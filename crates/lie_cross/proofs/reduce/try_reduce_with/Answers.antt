use Rattle.std.proofs.Common.{◌+◌, sym, ap, subst, subst₂, ◌∙◌, map, remove, get_or, List}
use Rattle.std.proofs.lemmas.Result.{err_from_is_err_and}
use Rattle.std.specs.List.{Contains}
use Rattle.lie_math.specs.LinearForm.{LinearForm, no_form}
use Rattle.lie_systems.specs.Normalised.{primitive}
use Rattle.lie_systems.specs.Works.{IsWorkWithin}
use Rattle.lie_lin.specs.Systems.{SpaceSystem}
use Rattle.lie_steps.specs.Equations.{equation, with_equations_at}
use Rattle.lie_steps.specs.Tidying.{IsTidySystem}
use Rattle.lie_normal.specs.WorkCauses.{IsWorkCause}
use Rattle.lie_change.specs.Ends.{EndMakes, StaysValid}
use Rattle.lie_cross.specs.Normal.{SomeIsReducible}
use Rattle.lie_cross.proofs.ReducedEquations.{reduction_cause, reduced_apart, reduced_valid, reduced_after, reduced_end_cause, reduced_fits}
use Rattle.lie_tables.proofs.Following.{index_same}
use Rattle.lie_cross.proofs.reduce.try_reduce_with.Goals as goal

pub returns-in_err-form-clause-past : goal.returns-in_err-form-clause-past
returns-in_err-form-clause-past c =
    let S = c.args.system.now.system in
    let p = err_from_is_err_and c.from_residual.result c.from_residual.ensures.1 in
    rw (p.1, p.2) (reduction_cause _ S c.system_is_valid.ensures.valid c.args.place c.requires.place
    (subst (λ (es : List LinearForm). SomeIsReducible (remove es c.args.place)
    (get_or es c.args.place no_form)) c.equations.ensures c.if-not-applies_by.ensures)
    c.in_err-form.field-0.0 c.in_err-form.ensures.past)

pub exchange_forms-requires-clause-apart : goal.exchange_forms-requires-clause-apart
exchange_forms-requires-clause-apart c =
    let S = c.args.system.now.system in
    subst₂ (λ (s : SpaceSystem) (fs : List LinearForm). ¬ (Contains (map primitive fs) (equation s.system c.args.place)))
    (sym c.in_ok-form.ensures.same) (sym c.as_slice.ensures)
    (reduced_apart _ S c.system_is_valid.ensures.valid c.args.place c.requires.place
    (subst (λ (es : List LinearForm). SomeIsReducible (remove es c.args.place)
    (get_or es c.args.place no_form)) c.equations.ensures c.if-not-applies_by.ensures)
    c.in_ok-form.form c.in_ok-form.ensures.normal)

pub exchange_forms-requires-clause-valid : goal.exchange_forms-requires-clause-valid
exchange_forms-requires-clause-valid c =
    let S = c.args.system.now.system in
    subst₂ (λ (s : SpaceSystem) (fs : List LinearForm). StaysValid (s.space.p + s.space.q) (with_equations_at s.system c.args.place fs))
    (sym c.in_ok-form.ensures.same) (sym c.as_slice.ensures)
    (reduced_valid _ S c.system_is_valid.ensures.valid c.args.place c.requires.place
    (subst (λ (es : List LinearForm). SomeIsReducible (remove es c.args.place)
    (get_or es c.args.place no_form)) c.equations.ensures c.if-not-applies_by.ensures)
    c.in_ok-form.form c.in_ok-form.ensures.normal)

pub returns-in_err-exchange_forms-clause-past : goal.returns-in_err-exchange_forms-clause-past
returns-in_err-exchange_forms-clause-past c =
    let S = c.args.system.now.system in
    let p = err_from_is_err_and c.from_residual-in_err-exchange_forms.result c.from_residual-in_err-exchange_forms.ensures.1 in
    rw (p.1, p.2) (reduced_end_cause _ S c.system_is_valid.ensures.valid c.args.place c.requires.place
    (subst (λ (es : List LinearForm). SomeIsReducible (remove es c.args.place)
    (get_or es c.args.place no_form)) c.equations.ensures c.if-not-applies_by.ensures)
    c.in_ok-form.form c.in_ok-form.ensures.normal c.in_err-exchange_forms.field-0.0
    (subst₂ (λ (s : SpaceSystem) (fs : List LinearForm). IsWorkCause c.in_err-exchange_forms.field-0.0
    (EndMakes
    (with_equations_at s.system c.args.place fs))) c.in_ok-form.ensures.same c.as_slice.ensures c.in_err-exchange_forms.ensures.past))

pub returns-clause-tried : goal.returns-clause-tried
returns-clause-tried c =
    let S = c.args.system.now.system in (
      c.exchange_forms.ensures.space ∙ ap (λ (s : SpaceSystem). s.space) c.in_ok-form.ensures.same,
      reduced_after _ S c.system_is_valid.ensures.valid c.args.place c.requires.place
          (subst (λ (es : List LinearForm). SomeIsReducible (remove es c.args.place)
          (get_or es c.args.place no_form)) c.equations.ensures c.if-not-applies_by.ensures)
          c.in_ok-form.form c.in_ok-form.ensures.normal c.exchange_forms.new.system.system
          (subst₂ (λ (s : SpaceSystem) (fs : List LinearForm). IsTidySystem
          (with_equations_at s.system c.args.place fs) c.exchange_forms.new.system.system) c.in_ok-form.ensures.same c.as_slice.ensures
          c.in_ok-exchange_forms.ensures.tidied),
    )

pub returns-clause-fits : goal.returns-clause-fits
returns-clause-fits c =
    let S = c.args.system.now.system in
    reduced_fits _ S c.system_is_valid.ensures.valid c.args.place c.requires.place
    (subst (λ (es : List LinearForm). SomeIsReducible (remove es c.args.place)
    (get_or es c.args.place no_form)) c.equations.ensures c.if-not-applies_by.ensures)
    c.in_ok-form.form c.in_ok-form.ensures.normal c.in_ok-form.ensures.fits
    (subst₂ (λ (s : SpaceSystem) (fs : List LinearForm). IsWorkWithin
    (EndMakes
    (with_equations_at s.system c.args.place fs))) c.in_ok-form.ensures.same c.as_slice.ensures c.in_ok-exchange_forms.ensures.fits)

pub exchange_forms-requires-clause-indexed : goal.exchange_forms-requires-clause-indexed
exchange_forms-requires-clause-indexed c =
    index_same c.args.tables.now _ _ (ap (λ (s : SpaceSystem). s.system.equations) (sym c.in_ok-form.ensures.same)) c.requires.indexed
