use Rattle.std.proofs.Common.{sym, subst}
use Rattle.lie_systems.specs.ValidSystems.{IsFormOf}
use Rattle.lie_systems.specs.Works.{IsWorkWithin}
use Rattle.lie_math.specs.LinearForm.{LinearForm}
use Rattle.lie_jet.specs.Derivatives.{derivative_of}
use Rattle.lie_steps.specs.NormalForm.{IsNormalForm, NormalFormMakes}
use Rattle.lie_cross.proofs.CrossedForms.{crossed_form, crossed_match, crossed_fits}
use Rattle.lie_cross.proofs.cross.crossed_by.Goals as goal

pub normal_form_by-requires : goal.normal_form_by-requires
normal_form_by-requires c =
    let S = c.args.system.now.system in
    subst (IsFormOf _ S.unknowns) (sym c.in_ok-combined.ensures.combined)
    (crossed_form _ S c.system_is_valid.ensures.valid c.args.first c.args.second c.requires.order c.requires.place
    (derivative_of c.args.lead.now) (derivative_of c.args.other.now) c.requires.leads)

pub returns-clause-found : goal.returns-clause-found
returns-clause-found c =
    let S = c.args.system.now.system in
    crossed_match _ S c.system_is_valid.ensures.valid c.args.first c.args.second c.requires.order c.requires.place
    (derivative_of c.args.lead.now) (derivative_of c.args.other.now) c.requires.leads
    c.in_ok-form.form
    (subst (λ
    (E : LinearForm). IsNormalForm S.unknowns S.equations E c.in_ok-form.form) c.in_ok-combined.ensures.combined
    c.in_ok-form.ensures.normal) c.unless_empty.result c.unless_empty.ensures

pub returns-clause-fits : goal.returns-clause-fits
returns-clause-fits c =
    let S = c.args.system.now.system in
    crossed_fits _ S c.system_is_valid.ensures.valid c.args.first c.args.second c.requires.order c.requires.place
    (derivative_of c.args.lead.now) (derivative_of c.args.other.now) c.requires.leads
    c.in_ok-combined.ensures.fits
    (subst (λ (E : LinearForm). IsWorkWithin
    (NormalFormMakes S.unknowns S.equations E)) c.in_ok-combined.ensures.combined c.in_ok-form.ensures.fits)
