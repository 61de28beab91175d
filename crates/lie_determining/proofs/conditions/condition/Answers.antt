use Rattle.std.proofs.Common.{subst}
use Rattle.lie_systems.specs.Bulk.{IsFormWithinLimits}
use Rattle.lie_math.specs.LinearForm.{LinearForm}
use Rattle.lie_jet.proofs.TotalSteps.{on_ok, if_err}
use Rattle.lie_solved.specs.declared.solved.LeadRule.{LeadRule}
use Rattle.lie_solved.specs.SolvedForms.{solved_equation, solved_equations}
use Rattle.lie_determining.specs.Conditions.{IsConditionWithin, IsConditionCause}
use Rattle.lie_determining.specs.SymbolicBulks.{symbolic_reduction_bulk}
use Rattle.lie_reduce.proofs.Places.{at_place}
use Rattle.lie_determining.proofs.ConditionSteps.{sized_at, rule_inside, reduced_cause}
use Rattle.lie_reduce.proofs.GreatestVariables.{rule_ready}
use Rattle.lie_determining.proofs.conditions.condition.Goals as goal

pub applied-requires-clause-rule : goal.applied-requires-clause-rule
applied-requires-clause-rule c = rule_ready c.args.space c.args.rules.now c.args.place c.index-rules-place.result c.requires.rules c.requires.place c.index-rules-place.is

pub applied-requires-clause-inside : goal.applied-requires-clause-inside
applied-requires-clause-inside c = rule_inside c.args.space c.args.rules.now c.args.place c.index-rules-place.result c.requires.place c.index-rules-place.is

pub applied-requires-clause-absolutes : goal.applied-requires-clause-absolutes
applied-requires-clause-absolutes c = sized_at c.args.space c.args.rules.now c.args.absolutes.now c.args.place c.index-rules-place.result c.index-absolutes-place.result c.requires.absolutes c.requires.place c.index-rules-place.is c.index-absolutes-place.is

pub returns-clause-fits : goal.returns-clause-fits
returns-clause-fits c =
    let S = c.args.space in
    let rs = solved_equations S c.args.rules.now in
    on_ok c.symbolic_reduction.result (λ w d. subst (λ (x : LeadRule). IsConditionWithin S rs (solved_equation S x)) (at_place c.args.rules.now c.args.place c.index-rules-place.result d c.requires.place c.index-rules-place.is)
    (record { application = c.in_ok-applied.ensures.fits; reduction = subst (λ (E : LinearForm). IsFormWithinLimits (symbolic_reduction_bulk rs E)) c.in_ok-applied.ensures.value w })) c.symbolic_reduction.ensures.fits

pub returns-clause-past : goal.returns-clause-past
returns-clause-past c =
    let S = c.args.space in
    let rs = solved_equations S c.args.rules.now in
    if_err c.symbolic_reduction.result (λ fail h d. subst (λ (x : LeadRule). IsConditionCause S rs (solved_equation S x) fail) (at_place c.args.rules.now c.args.place c.index-rules-place.result d c.requires.place c.index-rules-place.is) (reduced_cause S rs (solved_equation S c.index-rules-place.result) fail c.in_ok-applied.applied c.in_ok-applied.ensures.value h)) c.symbolic_reduction.ensures.past
