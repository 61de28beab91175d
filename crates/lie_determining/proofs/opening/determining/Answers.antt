use Rattle.std.proofs.Common.{ap, subst, sym, ◌∙◌}
use Rattle.std.proofs.lemmas.Result.{err_from_is_err_and}
use Rattle.lie_solved.specs.SolvedRules.{AreSolvedRules}
use Rattle.lie_jet.proofs.TotalParts.{if_ok}
use Rattle.lie_jet.proofs.TotalSteps.{if_err}
use Rattle.lie_lin.specs.Systems.{SpaceSystem}
use Rattle.lie_solved.specs.SolvedForms.{solved_equations}
use Rattle.lie_determining.specs.Conditions.{conditions_of, AreFormActionsWithin, IsFormActionCause}
use Rattle.lie_determining.proofs.OpeningSteps.{conditions_in_z, action_cause, system_opens, system_cause, system_within, system_says, both_ok}
use Rattle.lie_determining.proofs.opening.determining.Goals as goal

pub reduced_conditions-requires : goal.reduced_conditions-requires
reduced_conditions-requires c = subst (AreSolvedRules c.args.solved.now.system.space) (sym c.as_slice.ensures.value) c.args.solved.now.ready

pub returns-in_err-conditions-clause-past : goal.returns-in_err-conditions-clause-past
returns-in_err-conditions-clause-past c =
    let S = c.args.solved.now.system.space in
    let rs = solved_equations S c.args.solved.now.rules.items in
    let small = c.space_is_small.ensures in
    let r = err_from_is_err_and c.from_residual.result c.from_residual.ensures.1 in
    rw (r.1, r.2) (action_cause S small rs _ (subst (λ xs. IsFormActionCause S (solved_equations S xs) c.in_err-conditions.field-0.0) c.as_slice.ensures.value c.in_err-conditions.ensures.past))

pub opening_system-requires-clause-derivatives : goal.opening_system-requires-clause-derivatives
opening_system-requires-clause-derivatives c =
    let S = c.args.solved.now.system.space in
    let rs = solved_equations S c.args.solved.now.rules.items in
    let small = c.space_is_small.ensures in
    let e = c.as_slice-2.ensures.value ∙ c.in_ok-conditions.ensures.conditions ∙ ap (λ xs. conditions_of S (solved_equations S xs)) c.as_slice.ensures.value in
    conditions_in_z S small rs c.as_slice-2.result.now e

pub returns-clause-opening : goal.returns-clause-opening
returns-clause-opening c =
    let S = c.args.solved.now.system.space in
    let rs = solved_equations S c.args.solved.now.rules.items in
    let small = c.space_is_small.ensures in
    let e = c.as_slice-2.ensures.value ∙ c.in_ok-conditions.ensures.conditions ∙ ap (λ xs. conditions_of S (solved_equations S xs)) c.as_slice.ensures.value in
    if_ok c.opening_system.result (λ (made : SpaceSystem) h. system_opens S small rs c.as_slice-2.result.now e made.system h) c.opening_system.ensures.system

pub returns-clause-meaning : goal.returns-clause-meaning
returns-clause-meaning c =
    let S = c.args.solved.now.system.space in
    let rs = solved_equations S c.args.solved.now.rules.items in
    let small = c.space_is_small.ensures in
    let e = c.as_slice-2.ensures.value ∙ c.in_ok-conditions.ensures.conditions ∙ ap (λ xs. conditions_of S (solved_equations S xs)) c.as_slice.ensures.value in
    if_ok c.opening_system.result (λ (made : SpaceSystem) h. system_says S small rs c.args.solved.now.ready.solved c.args.solved.now.ready.high c.as_slice-2.result.now e made.system h) c.opening_system.ensures.system

pub returns-clause-fits : goal.returns-clause-fits
returns-clause-fits c =
    let S = c.args.solved.now.system.space in
    let rs = solved_equations S c.args.solved.now.rules.items in
    let small = c.space_is_small.ensures in
    let e = c.as_slice-2.ensures.value ∙ c.in_ok-conditions.ensures.conditions ∙ ap (λ xs. conditions_of S (solved_equations S xs)) c.as_slice.ensures.value in
    both_ok c.opening_system.result (λ (made : SpaceSystem) h few. system_within S small rs c.as_slice-2.result.now e made.system (subst (λ xs. AreFormActionsWithin S (solved_equations S xs)) c.as_slice.ensures.value c.in_ok-conditions.ensures.fits) h few) c.opening_system.ensures.system c.opening_system.ensures.few

pub returns-clause-past : goal.returns-clause-past
returns-clause-past c =
    let S = c.args.solved.now.system.space in
    let rs = solved_equations S c.args.solved.now.rules.items in
    let small = c.space_is_small.ensures in
    let e = c.as_slice-2.ensures.value ∙ c.in_ok-conditions.ensures.conditions ∙ ap (λ xs. conditions_of S (solved_equations S xs)) c.as_slice.ensures.value in
    if_err c.opening_system.result (λ fail h. system_cause S small rs c.as_slice-2.result.now e fail h) c.opening_system.ensures.past
