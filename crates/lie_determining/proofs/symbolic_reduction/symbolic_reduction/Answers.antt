use Rattle.std.proofs.Common.{ℕ, ◌∙◌, sym, subst}
use Rattle.std.proofs.lemmas.Result.{err_from_is_err_and}
use Rattle.lie_math.specs.LinearForm.{LinearForm}
use Rattle.lie_systems.specs.Bulk.{IsFormWithinLimits}
use Rattle.lie_form.specs.FormLimits.{IsFormCause}
use Rattle.lie_form.proofs.FormBounds.{IsFormBound}
use Rattle.lie_form.proofs.FormCauses.{coefficient_cause}
use Rattle.lie_solved.specs.SolvedForms.{solved_equations}
use Rattle.lie_determining.specs.SymbolicBulks.{degree_in_form, symbolic_reduction_bulk}
use Rattle.lie_reduce.proofs.AbsoluteRules.{can_reduce}
use Rattle.lie_determining.proofs.ReducedForms.{bulk_is, bulk_cause, form_bound}
use Rattle.lie_parts.proofs.BoundedForms.{bounded_cause}
use Rattle.lie_reduce.proofs.ReductionSteps.{reduction_bounded}
use Rattle.lie_determining.proofs.symbolic_reduction.symbolic_reduction.Goals as goal

pub returns-in_err-bulk-clause-past : goal.returns-in_err-bulk-clause-past
returns-in_err-bulk-clause-past c =
    let p = err_from_is_err_and c.from_residual-in_err-bulk.result c.from_residual-in_err-bulk.ensures.1 in
    rw (p.1, p.2) (bulk_cause (solved_equations c.args.space c.args.rules.now) (solved_equations c.args.space c.args.absolutes.now) c.requires.absolutes c.args.form.now c.in_ok-absolute.absolute c.in_ok-absolute.ensures.absolute _ c.in_err-bulk.ensures.past)

pub returns-in_err-within_limits-clause-past : goal.returns-in_err-within_limits-clause-past
returns-in_err-within_limits-clause-past c =
    let p = err_from_is_err_and c.from_residual-in_err-within_limits.result c.from_residual-in_err-within_limits.ensures.1 in
    rw (p.1, p.2) (subst (IsFormCause _) (c.in_ok-bulk.ensures.value ∙ bulk_is (solved_equations c.args.space c.args.rules.now) (solved_equations c.args.space c.args.absolutes.now) c.requires.absolutes c.args.form.now c.in_ok-absolute.absolute c.in_ok-absolute.ensures.absolute) c.in_err-within_limits.ensures.past)

pub reduced_form-requires-2 : goal.reduced_form-requires-2
reduced_form-requires-2 c = record { rules = can_reduce c.args.space c.args.rules.now c.requires.rules }

pub returns-in_err-made-clause-past : goal.returns-in_err-made-clause-past
returns-in_err-made-clause-past c =
    let p = err_from_is_err_and c.from_residual-in_err-made.result c.from_residual-in_err-made.ensures.1 in
    rw (p.1, p.2) (coefficient_cause _ (symbolic_reduction_bulk (solved_equations c.args.space c.args.rules.now) c.args.form.now) c.in_err-made.ensures.past)

pub returns-in_err-within_limits-2-clause-past : goal.returns-in_err-within_limits-2-clause-past
returns-in_err-within_limits-2-clause-past c =
    let rs = solved_equations c.args.space c.args.rules.now in
    let e : ℕ → ℕ = λ w. degree_in_form w c.args.form.now in
    let B = symbolic_reduction_bulk rs c.args.form.now in
    let p = err_from_is_err_and c.from_residual-in_err-within_limits-2.result c.from_residual-in_err-within_limits-2.ensures.1 in
    rw (p.1, p.2) (bounded_cause c.in_ok-made.made B (subst (λ (E : LinearForm). IsFormBound E B) (sym c.in_ok-made.ensures.value) (form_bound rs e (λ a. (reduction_bounded rs e a)) c.args.form.now)) _ c.in_err-within_limits-2.ensures.past)

pub returns-clause-fits : goal.returns-clause-fits
returns-clause-fits c =
    subst IsFormWithinLimits (c.in_ok-bulk.ensures.value ∙ bulk_is (solved_equations c.args.space c.args.rules.now) (solved_equations c.args.space c.args.absolutes.now) c.requires.absolutes c.args.form.now c.in_ok-absolute.absolute c.in_ok-absolute.ensures.absolute) c.in_ok-within_limits.ensures.fits
