use Rattle.std.proofs.Common.{subst, ◌≤◌, ◌+◌}
use Rattle.std.proofs.lemmas.Result.{err_from_is_err_and}
use Rattle.lie_jet.specs.Derivatives.{derivative_of}
use Rattle.lie_steps.specs.Foreign.{IsForeignBy}
use Rattle.lie_cross.specs.Foreign.{VariableTries}
use Rattle.lie_cross.proofs.ForeignForms.{none_is_foreign, all_fit, passed_cause, foreign_at, found_fit}
use Rattle.lie_cross.proofs.PassedVariables.{none_passed, more_passed}
use Rattle.lie_cross.proofs.foreign.first_form.Goals as goal

pub loop-var-init : goal.loop-var-init
loop-var-init c = none_passed (IsForeignBy c.args.system.now.system c.args.place) (VariableTries c.args.system.now.system c.args.place)

pub returns-in_err-form-clause-past : goal.returns-in_err-form-clause-past
returns-in_err-form-clause-past c =
    let S = c.args.system.now.system in
    let p = err_from_is_err_and c.from_residual.result c.from_residual.ensures.1 in
    rw (p.1, p.2)
    (passed_cause _ S c.system_is_valid.ensures.valid c.args.place c.requires.place
    (derivative_of c.args.lead.now) c.requires.leads c.loop-var.var c.loop-var.invariant c.in_err-form.field-0.0
    c.in_err-form.ensures.past)

pub returns-in-Some-clause-found : goal.returns-in-Some-clause-found
returns-in-Some-clause-found c =
    let S = c.args.system.now.system in (
      c.loop-var.var,
      foreign_at _ S c.system_is_valid.ensures.valid c.args.place c.requires.place
          (derivative_of c.args.lead.now) c.requires.leads c.loop-var.var c.loop-var.invariant
          c.in-Some.form (rw c.in-Some.is at c.in_ok-form.ensures.found),
    )

pub returns-in-Some-clause-fits : goal.returns-in-Some-clause-fits
returns-in-Some-clause-fits c =
    let S = c.args.system.now.system in
    found_fit _ S c.system_is_valid.ensures.valid c.args.place c.requires.place
    (derivative_of c.args.lead.now) c.requires.leads c.loop-var.var c.loop-var.invariant
    c.in-Some.form (rw c.in-Some.is at c.in_ok-form.ensures.found) c.in_ok-form.ensures.fits

pub loop-var-preserved : goal.loop-var-preserved
loop-var-preserved c =
    let S = c.args.system.now.system in
    more_passed (IsForeignBy S c.args.place) (VariableTries S c.args.place) c.loop-var.var c.loop-var.invariant
    (λ N f. (rw c.in_default.is at c.in_ok-form.ensures.found) (N, f)) c.in_ok-form.ensures.fits

pub returns-clause-found : goal.returns-clause-found
returns-clause-found c =
    let n : c.args.system.now.space.p + c.args.system.now.space.q ≤ c.loop-var.var =
    subst (λ k. k ≤ c.loop-var.var) c.variable_count-var-end.ensures.count c.loop-var-test.false in
    none_is_foreign _ c.args.system.now.system c.system_is_valid.ensures.valid c.args.place c.requires.place c.loop-var.var n
    c.loop-var.invariant

pub returns-clause-fits : goal.returns-clause-fits
returns-clause-fits c =
    let n : c.args.system.now.space.p + c.args.system.now.space.q ≤ c.loop-var.var =
    subst (λ k. k ≤ c.loop-var.var) c.variable_count-var-end.ensures.count c.loop-var-test.false in
    all_fit _ c.args.system.now.system c.system_is_valid.ensures.valid c.args.place c.requires.place c.loop-var.var n c.loop-var.invariant
