use Rattle.std.proofs.Common.{refl, sym, subst, subst₂, map, OnOk, List}
use Rattle.lie_math.specs.LinearForm.{LinearForm}
use Rattle.lie_math.specs.LinearSystem.{Unknown}
use Rattle.lie_systems.specs.Works.{IsWorkWithin}
use Rattle.lie_lin.specs.Systems.{unknown_of}
use Rattle.lie_steps.specs.NormalForm.{IsReducible, done, NormalFormMakes}
use Rattle.lie_cross.proofs.ReducibleForms.{same_forms, system_forms}
use Rattle.lie_cross.proofs.normal.normal_form_by.Goals as goal

pub returns-then-not-is_reducible-clause-normal : goal.returns-then-not-is_reducible-clause-normal
returns-then-not-is_reducible-clause-normal c =
    done (λ d r. c.if-not-is_reducible.ensures
    (d, subst (λ (es : List LinearForm). IsReducible es c.args.form d) (sym c.equations-equations.ensures) r))

pub normal_form-requires : goal.normal_form-requires
normal_form-requires c =
    let S = c.args.system.now.system in
    same_forms S.unknowns (map unknown_of c.unknowns.result.now) c.args.form c.args.form S.equations c.equations-equations.result.now
    (sym c.unknowns.ensures) refl (sym c.equations-equations.ensures)
    (system_forms _ S c.system_is_valid.ensures.valid c.system_is_valid.ensures.few c.args.form c.requires)

pub returns-clause-fits : goal.returns-clause-fits
returns-clause-fits c =
    subst₂ (λ (us : List Unknown) (es : List LinearForm). OnOk c.normal_form.result (IsWorkWithin (NormalFormMakes us es c.args.form)))
    c.unknowns.ensures c.equations-equations.ensures c.normal_form.ensures.fits
