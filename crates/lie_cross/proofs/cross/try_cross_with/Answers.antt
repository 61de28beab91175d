use Rattle.std.proofs.lemmas.Result.{err_from_is_err_and}
use Rattle.lie_steps.specs.Cross.{CrossTries}
use Rattle.lie_steps.specs.Rules.{Cross}
use Rattle.lie_cross.proofs.AddedForms.{nothing_fits, added_valid, added_cause, added_fits}
use Rattle.lie_cross.proofs.CrossedForms.{pair, cross_adds, cross_after}
use Rattle.lie_cross.proofs.cross.try_cross_with.Goals as goal

pub add_form-requires-clause-valid : goal.add_form-requires-clause-valid
add_form-requires-clause-valid c =
    let S = c.args.system.now.system in
    let valid = c.system_is_valid.ensures.valid in
    added_valid _ Cross S (pair c.args.first c.args.second) (CrossTries S c.args.first c.args.second)
    (cross_adds _ S valid c.args.first c.args.second c.requires.order c.requires.place) c.in-Some.form
    (cross_after _ S valid c.args.first c.args.second c.requires.order c.requires.place c.in-Some.form
    (rw c.in-Some.is at c.in_ok-form.ensures.found))

pub returns-in_err-add_form-in-Some-clause-past : goal.returns-in_err-add_form-in-Some-clause-past
returns-in_err-add_form-in-Some-clause-past c =
    let S = c.args.system.now.system in
    let valid = c.system_is_valid.ensures.valid in
    let p = err_from_is_err_and c.from_residual-in_err-add_form-in-Some.result c.from_residual-in_err-add_form-in-Some.ensures.1 in
    rw (p.1, p.2)
    (added_cause _ Cross S (pair c.args.first c.args.second) (CrossTries S c.args.first c.args.second)
    (cross_adds _ S valid c.args.first c.args.second c.requires.order c.requires.place) c.in-Some.form
    (cross_after _ S valid c.args.first c.args.second c.requires.order c.requires.place c.in-Some.form
    (rw c.in-Some.is at c.in_ok-form.ensures.found))
    c.in_err-add_form-in-Some.field-0.0 c.in_err-add_form-in-Some.ensures.past)

pub returns-in_ok-add_form-in-Some-clause-tried : goal.returns-in_ok-add_form-in-Some-clause-tried
returns-in_ok-add_form-in-Some-clause-tried c =
    let S = c.args.system.now.system in (
      c.in_ok-add_form-in-Some.ensures.space,
      cross_after _ S c.system_is_valid.ensures.valid c.args.first c.args.second c.requires.order c.requires.place c.in-Some.form
          (rw c.in-Some.is at c.in_ok-form.ensures.found)
          c.add_form.new.system.system c.in_ok-add_form-in-Some.ensures.tidied,
    )

pub returns-in_ok-add_form-in-Some-clause-fits : goal.returns-in_ok-add_form-in-Some-clause-fits
returns-in_ok-add_form-in-Some-clause-fits c =
    let S = c.args.system.now.system in
    let valid = c.system_is_valid.ensures.valid in
    added_fits _ Cross S (pair c.args.first c.args.second) (CrossTries S c.args.first c.args.second)
    (cross_adds _ S valid c.args.first c.args.second c.requires.order c.requires.place) c.in-Some.form
    (cross_after _ S valid c.args.first c.args.second c.requires.order c.requires.place c.in-Some.form
    (rw c.in-Some.is at c.in_ok-form.ensures.found))
    c.in_ok-form.ensures.fits c.in_ok-add_form-in-Some.ensures.fits

pub returns-in-None-clause-fits : goal.returns-in-None-clause-fits
returns-in-None-clause-fits c =
    let S = c.args.system.now.system in
    nothing_fits _ Cross S (pair c.args.first c.args.second) (CrossTries S c.args.first c.args.second)
    (cross_adds _ S c.system_is_valid.ensures.valid c.args.first c.args.second c.requires.order c.requires.place)
    c.in_ok-form.ensures.fits (rw c.in-None.is at c.in_ok-form.ensures.found)

pub add_form-requires-clause-indexed : goal.add_form-requires-clause-indexed
add_form-requires-clause-indexed c = c.requires.indexed
