use Rattle.std.proofs.lemmas.Result.{err_from_is_err_and}
use Rattle.lie_steps.specs.Foreign.{ForeignTries}
use Rattle.lie_steps.specs.Rules.{Foreign}
use Rattle.lie_change.specs.Tried.{at}
use Rattle.lie_cross.proofs.AddedForms.{nothing_fits, added_valid, added_cause, added_fits}
use Rattle.lie_cross.proofs.ForeignForms.{foreign_adds, foreign_after}
use Rattle.lie_cross.proofs.foreign.try_foreign_with.Goals as goal

pub add_form-requires-clause-valid : goal.add_form-requires-clause-valid
add_form-requires-clause-valid c =
    let S = c.args.system.now.system in
    let valid = c.system_is_valid.ensures.valid in
    added_valid _ Foreign S (at c.args.place) (ForeignTries S c.args.place) (foreign_adds _ S valid c.args.place c.requires.place) c.in-Some.form
    (foreign_after _ S valid c.args.place c.requires.place c.in-Some.form (rw c.in-Some.is at c.in_ok-form.ensures.found))

pub returns-in_err-add_form-in-Some-clause-past : goal.returns-in_err-add_form-in-Some-clause-past
returns-in_err-add_form-in-Some-clause-past c =
    let S = c.args.system.now.system in
    let valid = c.system_is_valid.ensures.valid in
    let p = err_from_is_err_and c.from_residual-in_err-add_form-in-Some.result c.from_residual-in_err-add_form-in-Some.ensures.1 in
    rw (p.1, p.2)
    (added_cause _ Foreign S (at c.args.place) (ForeignTries S c.args.place)
    (foreign_adds _ S valid c.args.place c.requires.place) c.in-Some.form
    (foreign_after _ S valid c.args.place c.requires.place c.in-Some.form (rw c.in-Some.is at c.in_ok-form.ensures.found))
    c.in_err-add_form-in-Some.field-0.0 c.in_err-add_form-in-Some.ensures.past)

pub returns-in_ok-add_form-in-Some-clause-tried : goal.returns-in_ok-add_form-in-Some-clause-tried
returns-in_ok-add_form-in-Some-clause-tried c =
    let S = c.args.system.now.system in (
      c.in_ok-add_form-in-Some.ensures.space,
      foreign_after _ S c.system_is_valid.ensures.valid c.args.place c.requires.place c.in-Some.form
          (rw c.in-Some.is at c.in_ok-form.ensures.found)
          c.add_form.new.system.system c.in_ok-add_form-in-Some.ensures.tidied,
    )

pub returns-in_ok-add_form-in-Some-clause-fits : goal.returns-in_ok-add_form-in-Some-clause-fits
returns-in_ok-add_form-in-Some-clause-fits c =
    let S = c.args.system.now.system in
    let valid = c.system_is_valid.ensures.valid in
    added_fits _ Foreign S (at c.args.place) (ForeignTries S c.args.place) (foreign_adds _ S valid c.args.place c.requires.place) c.in-Some.form
    (foreign_after _ S valid c.args.place c.requires.place c.in-Some.form (rw c.in-Some.is at c.in_ok-form.ensures.found))
    c.in_ok-form.ensures.fits c.in_ok-add_form-in-Some.ensures.fits

pub returns-in-None-clause-fits : goal.returns-in-None-clause-fits
returns-in-None-clause-fits c =
    let S = c.args.system.now.system in
    nothing_fits _ Foreign S (at c.args.place) (ForeignTries S c.args.place)
    (foreign_adds _ S c.system_is_valid.ensures.valid c.args.place c.requires.place)
    c.in_ok-form.ensures.fits (λ a. (rw c.in-None.is at c.in_ok-form.ensures.found) a.1)

pub add_form-requires-clause-indexed : goal.add_form-requires-clause-indexed
add_form-requires-clause-indexed c = c.requires.indexed
