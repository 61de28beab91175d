use Rattle.std.proofs.Common.{◌≤◌, ◌+◌, sym, subst, subst₂, List}
use Rattle.std.proofs.lemmas.Result.{err_from_is_err_and}
use Rattle.lie_math.specs.LinearForm.{LinearForm}
use Rattle.lie_math.specs.LinearSystem.{Unknown}
use Rattle.lie_systems.specs.Works.{IsWorkWithin}
use Rattle.lie_normal.specs.WorkCauses.{IsWorkCause}
use Rattle.lie_steps.specs.Equations.{equation}
use Rattle.lie_steps.specs.Isolate.{IsIsolatedBy}
use Rattle.lie_cross.specs.Isolate.{IsolationTries}
use Rattle.lie_cross.proofs.ReducibleForms.{equation_is}
use Rattle.lie_cross.proofs.IsolatedForms.{none_is_isolated, all_isolations_fit, passed_cause, isolated_at, found_fit}
use Rattle.lie_cross.proofs.PassedVariables.{none_passed, more_passed}
use Rattle.lie_cross.proofs.isolate.isolated_form.Goals as goal

pub returns-in_err-part-clause-past : goal.returns-in_err-part-clause-past
returns-in_err-part-clause-past c =
    let S = c.args.system.now.system in
    let is = equation_is S c.equations.result.now c.args.place c.index-equations-place.result c.equations.ensures c.requires
    c.index-equations-place.is in
    let p = err_from_is_err_and c.from_residual.result c.from_residual.ensures.1 in
    rw (p.1, p.2)
    (passed_cause _ S c.system_is_valid.ensures.valid c.args.place c.requires c.loop-var.var c.loop-var.invariant
    c.in_err-part.field-0.0
    (subst₂ (λ (us : List Unknown) (E : LinearForm). IsWorkCause c.in_err-part.field-0.0
    (IsolationTries us E c.loop-var.var)) c.unknowns.ensures (sym is) c.in_err-part.ensures.past))

pub returns-in-Some-clause-found : goal.returns-in-Some-clause-found
returns-in-Some-clause-found c =
    let S = c.args.system.now.system in
    let is = equation_is S c.equations.result.now c.args.place c.index-equations-place.result c.equations.ensures c.requires
    c.index-equations-place.is in (
      c.loop-var.var,
      isolated_at _ S c.system_is_valid.ensures.valid c.args.place c.requires c.loop-var.var c.loop-var.invariant c.in-Some.part
          (subst₂ (λ (us : List Unknown) (E : LinearForm). IsIsolatedBy us E c.loop-var.var c.in-Some.part) c.unknowns.ensures (sym is)
          (rw c.in-Some.is at c.in_ok-part.ensures.found)),
    )

pub returns-in-Some-clause-fits : goal.returns-in-Some-clause-fits
returns-in-Some-clause-fits c =
    let S = c.args.system.now.system in
    let is = equation_is S c.equations.result.now c.args.place c.index-equations-place.result c.equations.ensures c.requires
    c.index-equations-place.is in
    found_fit _ S c.system_is_valid.ensures.valid c.args.place c.requires c.loop-var.var c.loop-var.invariant c.in-Some.part
    (subst₂ (λ (us : List Unknown) (E : LinearForm). IsIsolatedBy us E c.loop-var.var c.in-Some.part) c.unknowns.ensures (sym is)
    (rw c.in-Some.is at c.in_ok-part.ensures.found))
    (subst₂ (λ (us : List Unknown) (E : LinearForm). IsWorkWithin (IsolationTries us E c.loop-var.var)) c.unknowns.ensures
    (sym is) c.in_ok-part.ensures.fits)

pub loop-var-init : goal.loop-var-init
loop-var-init c =
    let S = c.args.system.now.system in
    none_passed (IsIsolatedBy S.unknowns (equation S c.args.place)) (IsolationTries S.unknowns (equation S c.args.place))

pub loop-var-preserved : goal.loop-var-preserved
loop-var-preserved c =
    let S = c.args.system.now.system in
    let is = equation_is S c.equations.result.now c.args.place c.index-equations-place.result c.equations.ensures c.requires
    c.index-equations-place.is in
    more_passed (IsIsolatedBy S.unknowns (equation S c.args.place))
    (IsolationTries S.unknowns (equation S c.args.place)) c.loop-var.var c.loop-var.invariant
    (subst₂ (λ (us : List Unknown) (E : LinearForm). (P : LinearForm) → ¬ (IsIsolatedBy us E c.loop-var.var P)) c.unknowns.ensures (sym is)
    (rw c.in_default.is at c.in_ok-part.ensures.found))
    (subst₂ (λ (us : List Unknown) (E : LinearForm). IsWorkWithin (IsolationTries us E c.loop-var.var)) c.unknowns.ensures
    (sym is) c.in_ok-part.ensures.fits)

pub returns-clause-found : goal.returns-clause-found
returns-clause-found c =
    let n : c.args.system.now.space.p + c.args.system.now.space.q ≤ c.loop-var.var =
    subst (λ k. k ≤ c.loop-var.var) c.variable_count-var-end.ensures.count c.loop-var-test.false in
    none_is_isolated _ c.args.system.now.system c.system_is_valid.ensures.valid c.args.place c.requires c.loop-var.var n
    c.loop-var.invariant

pub returns-clause-fits : goal.returns-clause-fits
returns-clause-fits c =
    let n : c.args.system.now.space.p + c.args.system.now.space.q ≤ c.loop-var.var =
    subst (λ k. k ≤ c.loop-var.var) c.variable_count-var-end.ensures.count c.loop-var-test.false in
    all_isolations_fit _ c.args.system.now.system c.system_is_valid.ensures.valid c.args.place c.requires c.loop-var.var n
    c.loop-var.invariant
