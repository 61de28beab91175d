use Rattle.std.specs.Prelude.{unsigned_abs, neg_ℤ}
use Rattle.std.proofs.Common.{sym, ap, subst, ◌∙◌}
use Rattle.std.proofs.lemmas.Result.{err_from_is_err_and}
use Rattle.lie_math.specs.Variables.{FreeOf}
use Rattle.lie_geometry.specs.SolvedEquations.{SolvedEquation}
use Rattle.lie_systems.specs.Bulk.{IsFormWithinLimits}
use Rattle.lie_form.specs.FormLimits.{IsFormCause}
use Rattle.lie_jet.proofs.TotalParts.{if_ok}
use Rattle.lie_jet.proofs.TotalSteps.{if_err}
use Rattle.lie_jet.proofs.TotalSteps.{always}
use Rattle.lie_solved.specs.SolvedForms.{solved_equation, solved_equations}
use Rattle.lie_determining.proofs.ConditionSums.{few_forms, few_sizes, free_absolute, true_sum, true_cause, bulk_sum, bulk_cause}
use Rattle.lie_determining.proofs.conditions.applied.Goals as goal

pub symbolic_application-requires-clause-few : goal.symbolic_application-requires-clause-few
symbolic_application-requires-clause-few c =
    few_sizes c.args.space (solved_equations c.args.space c.args.rules.now) (solved_equation c.args.space c.args.rule.now) c.requires.rule.free c.args.forms.now c.requires.forms c.requires.inside c.jet_number-lead.result c.jet_number-lead.ensures.number
    (solved_equation c.args.space c.args.absolutes.now) c.requires.absolutes c.args.absolute_forms.now c.requires.absolute_forms c.one.result c.one.ensures c.requires.rule.jet.space c.requires.order

pub symbolic_application-requires-clause-free : goal.symbolic_application-requires-clause-free
symbolic_application-requires-clause-free c =
    subst (λ w. FreeOf w c.args.absolutes.now.right) (sym c.jet_number-lead.ensures.number)
    (subst (λ (x : SolvedEquation). FreeOf (solved_equation c.args.space c.args.rule.now).lead x.right) (sym c.requires.absolutes) (free_absolute (solved_equation c.args.space c.args.rule.now).lead c.args.rule.now.right c.requires.rule.free))

pub returns-in_err-bulk-clause-past : goal.returns-in_err-bulk-clause-past
returns-in_err-bulk-clause-past c =
    let p = err_from_is_err_and c.from_residual.result c.from_residual.ensures.1 in
    rw (p.1, p.2)
    (bulk_cause c.args.space (solved_equations c.args.space c.args.rules.now) (solved_equation c.args.space c.args.rule.now) c.requires.rule.free c.args.forms.now c.requires.forms c.requires.inside c.jet_number-lead.result c.jet_number-lead.ensures.number
    (solved_equation c.args.space c.args.absolutes.now) c.requires.absolutes c.args.absolute_forms.now c.requires.absolute_forms c.one.result c.one.ensures _ c.in_err-bulk.ensures.past)

pub returns-in_err-within_limits-clause-past : goal.returns-in_err-within_limits-clause-past
returns-in_err-within_limits-clause-past c =
    let p = err_from_is_err_and c.from_residual-in_err-within_limits.result c.from_residual-in_err-within_limits.ensures.1 in
    rw (p.1, p.2)
    (subst (IsFormCause _)
    (bulk_sum c.args.space (solved_equations c.args.space c.args.rules.now) (solved_equation c.args.space c.args.rule.now) c.requires.rule.free c.args.forms.now c.requires.forms c.requires.inside c.jet_number-lead.result c.jet_number-lead.ensures.number
    (solved_equation c.args.space c.args.absolutes.now) c.requires.absolutes c.args.absolute_forms.now c.requires.absolute_forms c.one.result c.one.ensures c.in_ok-bulk.bulk c.in_ok-bulk.ensures.sum)
    c.in_err-within_limits.ensures.past)

pub symbolic_application-requires-2-clause-few : goal.symbolic_application-requires-2-clause-few
symbolic_application-requires-2-clause-few c =
    few_forms c.args.space (solved_equations c.args.space c.args.rules.now) (solved_equation c.args.space c.args.rule.now) c.requires.rule.free c.args.forms.now c.requires.forms c.requires.inside c.jet_number-lead.result c.jet_number-lead.ensures.number c.requires.rule.jet.space c.requires.order

pub returns-clause-value : goal.returns-clause-value
returns-clause-value c =
    if_ok c.symbolic_application-2.result
    (λ made h. true_sum c.args.space (solved_equations c.args.space c.args.rules.now) (solved_equation c.args.space c.args.rule.now) c.requires.rule.free c.args.forms.now c.requires.forms c.requires.inside c.jet_number-lead.result c.jet_number-lead.ensures.number made c.neg.result (c.neg.ensures ∙ ap neg_ℤ c.one-2.ensures) h)
    c.symbolic_application-2.ensures.sum

pub returns-clause-fits : goal.returns-clause-fits
returns-clause-fits c =
    always c.symbolic_application-2.result
    (subst IsFormWithinLimits
    (bulk_sum c.args.space (solved_equations c.args.space c.args.rules.now) (solved_equation c.args.space c.args.rule.now) c.requires.rule.free c.args.forms.now c.requires.forms c.requires.inside c.jet_number-lead.result c.jet_number-lead.ensures.number
    (solved_equation c.args.space c.args.absolutes.now) c.requires.absolutes c.args.absolute_forms.now c.requires.absolute_forms c.one.result c.one.ensures c.in_ok-bulk.bulk c.in_ok-bulk.ensures.sum)
    c.in_ok-within_limits.ensures.fits)

pub returns-clause-past : goal.returns-clause-past
returns-clause-past c =
    if_err c.symbolic_application-2.result
    (λ fail h. true_cause c.args.space (solved_equations c.args.space c.args.rules.now) (solved_equation c.args.space c.args.rule.now) c.requires.rule.free c.args.forms.now c.requires.forms c.requires.inside c.jet_number-lead.result c.jet_number-lead.ensures.number fail c.neg.result (ap unsigned_abs (c.neg.ensures ∙ ap neg_ℤ c.one-2.ensures)) h)
    c.symbolic_application-2.ensures.past
