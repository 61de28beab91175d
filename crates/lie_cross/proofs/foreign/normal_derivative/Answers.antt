use Rattle.std.proofs.Common.{refl, sym, subst, subst₂, inl, ◌∙◌, ap₂, List}
use Rattle.std.proofs.lemmas.Result.{err_from_is_err_and}
use Rattle.lie_math.specs.LinearForm.{LinearForm}
use Rattle.lie_math.specs.LinearSystem.{Unknown}
use Rattle.lie_systems.specs.ValidSystems.{IsFormOf}
use Rattle.lie_form.specs.FormLimits.{IsFormCause}
use Rattle.lie_normal.proofs.WorkSteps.{form_work}
use Rattle.lie_steps.specs.Bulks.{derivative_bulk}
use Rattle.lie_steps.specs.Derivatives.{derivative}
use Rattle.lie_steps.specs.Equations.{equation}
use Rattle.lie_cross.specs.Foreign.{DerivativeMakes}
use Rattle.lie_cross.proofs.ForeignForms.{derived_form}
use Rattle.lie_cross.proofs.ReducibleForms.{equation_is}
use Rattle.lie_cross.proofs.foreign.normal_derivative.Goals as goal

pub returns-in_err-derived-clause-past : goal.returns-in_err-derived-clause-past
returns-in_err-derived-clause-past c =
    let S = c.args.system.now.system in
    let is = equation_is S c.equations.result.now c.args.place c.index-equations-place.result c.equations.ensures c.requires.place
    c.index-equations-place.is in
    let p = err_from_is_err_and c.from_residual.result c.from_residual.ensures.1 in
    rw (p.1, p.2)
    (form_work (DerivativeMakes S c.args.place c.args.var) c.in_err-derived.field-0.0
    (derivative_bulk S.unknowns c.args.var (equation S c.args.place)) (inl refl)
    (subst₂ (λ (us : List Unknown) (E : LinearForm). IsFormCause c.in_err-derived.field-0.0
    (derivative_bulk us c.args.var E)) c.unknowns.ensures (sym is) c.in_err-derived.ensures.past))

pub normal_form_by-requires : goal.normal_form_by-requires
normal_form_by-requires c =
    let S = c.args.system.now.system in
    let is = equation_is S c.equations.result.now c.args.place c.index-equations-place.result c.equations.ensures c.requires.place
    c.index-equations-place.is in
    subst (IsFormOf _ S.unknowns)
    (sym (c.in_ok-derived.ensures.derivative
    ∙ ap₂ (λ (us : List Unknown) (E : LinearForm). derivative us c.args.var E) c.unknowns.ensures (sym is)))
    (derived_form _ S c.system_is_valid.ensures.valid c.args.place c.requires.place c.args.var)
