use Rattle.std.proofs.Common.{◌≡◌, ◌∷◌, [], ◌++◌, arith, ap, sym, subst, ◌∙◌}
use Rattle.std.specs.List.{AllByRecursion as Every}
use Rattle.std.proofs.lemmas.Grind.{common_steps}
use Rattle.std.proofs.lemmas.Result.{err_from_is_err_and}
use Rattle.lie_solved.specs.SolvedForms.{solved_equations}
use Rattle.lie_systems.specs.Bulk.{IsFormWithinLimits}
use Rattle.lie_math.proofs.EveryElement.{every-append}
use Rattle.lie_reduce.specs.Reductions.{CanReduce}
use Rattle.lie_geometry.specs.Coordinates.{coordinates_up_to}
use Rattle.lie_symbolic.specs.SymbolicCoefficients.{coefficients_among}
use Rattle.lie_determining.specs.AppliedForms.{AreCoordinateForms}
use Rattle.lie_determining.proofs.CoordinateForms.{forms_are}
use Rattle.lie_reduce.proofs.AbsoluteRules.{can_reduce}
use Rattle.lie_determining.proofs.ConditionSteps.{place_cause, made_more, done_more, all_done}
use Rattle.lie_determining.proofs.conditions.reduced_conditions.Goals as goal

pub condition-requires-clause-forms : goal.condition-requires-clause-forms
condition-requires-clause-forms c =
    let S = c.args.space in
    subst (AreCoordinateForms S (solved_equations S c.args.rules.now)) (sym c.as_slice-in-loop-place-2.ensures.value)
    (forms_are S c.args.rules.now c.in_ok-numbers.numbers.items c.in_ok-numbers.ensures c.in_ok-order.order c.in_ok-order.ensures.order c.in_ok-forms.forms.items
    (c.in_ok-forms.ensures ∙ ap (λ ns. coefficients_among S ns (coordinates_up_to S c.in_ok-order.order)) c.as_slice.ensures.value))

pub returns-in_err-next-clause-past : goal.returns-in_err-next-clause-past
returns-in_err-next-clause-past c =
    let p = err_from_is_err_and c.from_residual-in_err-next.result c.from_residual-in_err-next.ensures.1 in
    rw (p.1, p.2) (place_cause c.args.space c.args.rules.now c.loop-place.place _ c.loop-place-test.true c.in_err-next.ensures.past)

pub condition-requires-clause-ready : goal.condition-requires-clause-ready
condition-requires-clause-ready c = subst (CanReduce c.args.space) (sym c.as_slice-in-loop-place.ensures.value) (c.in_ok-absolutes.ensures.ready c.args.space (can_reduce c.args.space c.args.rules.now c.requires))

pub loop-place-preserved : goal.loop-place-preserved
loop-place-preserved c =
    let pushed : c.push.new.self.items ≡ c.loop-place.made.items ++ c.in_ok-next.next ∷ [] = grind (arith, common_steps) in
    record {
      made = made_more c.args.space c.args.rules.now c.loop-place.place c.loop-place.made.items c.push.new.self.items c.in_ok-next.next c.loop-place-test.true c.loop-place.invariant.made pushed c.in_ok-next.ensures.value;
      done = done_more c.args.space c.args.rules.now c.loop-place.place c.loop-place.invariant.done c.in_ok-next.ensures.fits;
      within = subst (Every IsFormWithinLimits) (sym pushed) (every-append IsFormWithinLimits c.loop-place.made.items (c.in_ok-next.next ∷ []) c.loop-place.invariant.within (c.in_ok-next.ensures.within, tt));
    }

pub returns-clause-fits : goal.returns-clause-fits
returns-clause-fits c = all_done c.args.space c.args.rules.now c.in_ok-order.order c.loop-place.place c.space_is_small.ensures c.in_ok-order.ensures.order c.in_ok-order.ensures.low c.coefficients_are_within_limits.ensures c.loop-place-test.false c.loop-place.invariant.done
