use Rattle.std.proofs.Common.{ap, sym, subst, ◌∙◌, length}
use Rattle.std.proofs.lemmas.Result.{err_from_is_err_and}
use Rattle.lie_math.specs.Limits.{IsWithinLimits}
use Rattle.lie_solved.specs.SolvedForms.{solved_equations}
use Rattle.lie_reduce.specs.Reductions.{CanReduce}
use Rattle.lie_check.proofs.AloneSizes.{sized_cause, sized_value}
use Rattle.lie_reduce.proofs.ReductionSteps.{alone_cause}
use Rattle.lie_check.proofs.remainders.remainder.Goals as goal

pub reduced_all-requires : goal.reduced_all-requires
reduced_all-requires c = subst (CanReduce c.args.space) (sym c.as_slice.ensures.value) (c.in_ok-absolutes.ensures.ready c.args.space c.requires)

pub returns-in_err-reduced_all-clause-past : goal.returns-in_err-reduced_all-clause-past
returns-in_err-reduced_all-clause-past c =
    let p = err_from_is_err_and c.from_residual-in_err-reduced_all.result c.from_residual-in_err-reduced_all.ensures.1 in
    rw (p.1, p.2) (sized_cause (solved_equations c.args.space c.args.rules.now) (solved_equations c.args.space c.as_slice.result.now) c.args.applied c.in_ok-absolute.absolute c.in_err-reduced_all.field-0.0 (ap (solved_equations c.args.space) c.as_slice.ensures.value ∙ c.in_ok-absolutes.ensures.equations c.args.space) c.in_ok-absolute.ensures.absolute c.in_err-reduced_all.ensures.past)

pub returns-in_err-reduced_all-2-clause-past : goal.returns-in_err-reduced_all-2-clause-past
returns-in_err-reduced_all-2-clause-past c =
    let p = err_from_is_err_and c.from_residual-in_err-reduced_all-2.result c.from_residual-in_err-reduced_all-2.ensures.1 in
    rw (p.1, p.2) (alone_cause (solved_equations c.args.space c.args.rules.now) c.args.applied c.in_err-reduced_all-2.field-0.0 c.in_err-reduced_all-2.ensures.past)

pub alone-requires : goal.alone-requires
alone-requires c = ap length c.in_ok-reduced_all-2.ensures.reduced

pub returns-clause-fits : goal.returns-clause-fits
returns-clause-fits c =
    subst IsWithinLimits
    (c.alone-bulk.ensures _ c.in_ok-reduced_all.ensures.reduced
    ∙ sized_value (solved_equations c.args.space c.args.rules.now) (solved_equations c.args.space c.as_slice.result.now) c.args.applied c.in_ok-absolute.absolute (ap (solved_equations c.args.space) c.as_slice.ensures.value ∙ c.in_ok-absolutes.ensures.equations c.args.space) c.in_ok-absolute.ensures.absolute)
    c.is_within_limits.ensures
