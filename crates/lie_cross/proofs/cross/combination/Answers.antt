use Rattle.std.proofs.Common.{◌∙◌, arith, subst, map}
use Rattle.std.proofs.lemmas.Result.{err_from_is_err_and}
use Rattle.lie_systems.specs.Bulk.{IsFormWithinLimits}
use Rattle.lie_form.specs.FormLimits.{IsFormCause}
use Rattle.lie_jet.specs.Derivatives.{derivative_of}
use Rattle.lie_jet.proofs.TotalParts.{if_ok}
use Rattle.lie_jet.proofs.TotalSteps.{on_ok, if_err}
use Rattle.lie_lin.specs.Systems.{unknown_of}
use Rattle.lie_steps.specs.Cross.{least_multiple}
use Rattle.lie_cross.proofs.ReducibleForms.{equation_is}
use Rattle.lie_cross.proofs.CrossedForms.{same_work, same_within, same_raised, combination_is, bulk_is, second_cause}
use Rattle.lie_cross.proofs.CrossedForms.{last_cause, made_fit}
use Rattle.lie_cross.proofs.cross.combination.Goals as goal

pub returns-in_err-right-clause-past : goal.returns-in_err-right-clause-past
returns-in_err-right-clause-past c =
    let S = c.args.system.now.system in
    let l = derivative_of c.args.lead.now in
    let m = derivative_of c.args.other.now in
    let is = equation_is S c.equations-equations.result.now c.args.second c.index-equations-second.result c.equations-equations.ensures
    c.requires.place c.index-equations-second.is in
    let p = err_from_is_err_and c.from_residual-in_err-right.result c.from_residual-in_err-right.ensures.1 in
    rw (p.1, p.2) (second_cause S c.args.first c.args.second l m c.in_err-right.field-0.0
    (same_work S c.args.second m (derivative_of c.common_multiple-common.result) (least_multiple l m)
    (map unknown_of c.unknowns-unknowns.result.now) c.index-equations-second.result c.unknowns-unknowns.ensures
    c.common_multiple-common.ensures is
    c.in_err-right.field-0.0 c.in_err-right.ensures.past))

pub returns-clause-combined : goal.returns-clause-combined
returns-clause-combined c =
    let S = c.args.system.now.system in
    let l = derivative_of c.args.lead.now in
    let m = derivative_of c.args.other.now in
    let d = derivative_of c.common_multiple-common.result in
    let first = equation_is S c.equations-equations.result.now c.args.first c.index-equations-first.result c.equations-equations.ensures
    (omega (arith, c.requires.order, c.requires.place)) c.index-equations-first.is in
    let second =
    equation_is S c.equations-equations.result.now c.args.second c.index-equations-second.result c.equations-equations.ensures
    c.requires.place c.index-equations-second.is in
    if_ok c.combine.result
    (λ made h. h
    ∙ combination_is S c.args.first c.args.second l m d c.in_ok-left.left c.in_ok-right.right c.common_multiple-common.ensures
    (c.in_ok-left.ensures.derivative ∙ same_raised S c.args.first l d (least_multiple l m)
    (map unknown_of c.unknowns-unknowns.result.now) c.index-equations-first.result c.unknowns-unknowns.ensures
    c.common_multiple-common.ensures first)
    (c.in_ok-right.ensures.derivative ∙ same_raised S c.args.second m d (least_multiple l m)
    (map unknown_of c.unknowns-unknowns.result.now) c.index-equations-second.result c.unknowns-unknowns.ensures
    c.common_multiple-common.ensures second)) c.combine.ensures.combined

pub returns-clause-fits : goal.returns-clause-fits
returns-clause-fits c =
    let S = c.args.system.now.system in
    let l = derivative_of c.args.lead.now in
    let m = derivative_of c.args.other.now in
    let d = derivative_of c.common_multiple-common.result in
    let first = equation_is S c.equations-equations.result.now c.args.first c.index-equations-first.result c.equations-equations.ensures
    (omega (arith, c.requires.order, c.requires.place)) c.index-equations-first.is in
    let second =
    equation_is S c.equations-equations.result.now c.args.second c.index-equations-second.result c.equations-equations.ensures
    c.requires.place c.index-equations-second.is in
    on_ok c.combine.result (λ w. made_fit S c.args.first c.args.second l m
    (same_within S c.args.first l d (least_multiple l m)
    (map unknown_of c.unknowns-unknowns.result.now) c.index-equations-first.result c.unknowns-unknowns.ensures
    c.common_multiple-common.ensures first c.in_ok-left.ensures.fits)
    (same_within S c.args.second m d (least_multiple l m)
    (map unknown_of c.unknowns-unknowns.result.now) c.index-equations-second.result c.unknowns-unknowns.ensures
    c.common_multiple-common.ensures second c.in_ok-right.ensures.fits)
    (subst IsFormWithinLimits
    (bulk_is S c.args.first c.args.second l m d c.in_ok-left.left c.in_ok-right.right c.common_multiple-common.ensures
    (c.in_ok-left.ensures.derivative ∙ same_raised S c.args.first l d (least_multiple l m)
    (map unknown_of c.unknowns-unknowns.result.now) c.index-equations-first.result c.unknowns-unknowns.ensures
    c.common_multiple-common.ensures first)
    (c.in_ok-right.ensures.derivative ∙ same_raised S c.args.second m d (least_multiple l m)
    (map unknown_of c.unknowns-unknowns.result.now) c.index-equations-second.result c.unknowns-unknowns.ensures
    c.common_multiple-common.ensures second)) w)) c.combine.ensures.fits

pub returns-clause-past : goal.returns-clause-past
returns-clause-past c =
    let S = c.args.system.now.system in
    let l = derivative_of c.args.lead.now in
    let m = derivative_of c.args.other.now in
    let d = derivative_of c.common_multiple-common.result in
    let first = equation_is S c.equations-equations.result.now c.args.first c.index-equations-first.result c.equations-equations.ensures
    (omega (arith, c.requires.order, c.requires.place)) c.index-equations-first.is in
    let second =
    equation_is S c.equations-equations.result.now c.args.second c.index-equations-second.result c.equations-equations.ensures
    c.requires.place c.index-equations-second.is in
    if_err c.combine.result (λ fail h. last_cause S c.args.first c.args.second l m fail
    (subst (IsFormCause fail)
    (bulk_is S c.args.first c.args.second l m d c.in_ok-left.left c.in_ok-right.right c.common_multiple-common.ensures
    (c.in_ok-left.ensures.derivative ∙ same_raised S c.args.first l d (least_multiple l m)
    (map unknown_of c.unknowns-unknowns.result.now) c.index-equations-first.result c.unknowns-unknowns.ensures
    c.common_multiple-common.ensures first)
    (c.in_ok-right.ensures.derivative ∙ same_raised S c.args.second m d (least_multiple l m)
    (map unknown_of c.unknowns-unknowns.result.now) c.index-equations-second.result c.unknowns-unknowns.ensures
    c.common_multiple-common.ensures second)) h)) c.combine.ensures.past
