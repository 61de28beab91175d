use Rattle.std.proofs.Common.{◌∙◌}
use Rattle.std.proofs.lemmas.Result.{err_from_is_err_and}
use Rattle.lie_solved.specs.SolvedForms.{solved_equations}
use Rattle.lie_reduce.specs.Reductions.{greatest_exponent}
use Rattle.lie_reduce.proofs.ReductionSteps.{reduction_cause_at}
use Rattle.lie_reduce.proofs.reduction.reduced_all.Goals as goal

pub returns-in_err-next-clause-past : goal.returns-in_err-next-clause-past
returns-in_err-next-clause-past c =
    let p = err_from_is_err_and c.from_residual-in_err-next.result c.from_residual-in_err-next.ensures.1 in
    rw (p.1, p.2)
    (reduction_cause_at (solved_equations c.args.space c.args.rules.now) c.args.polynomials.now c.in_err-next.field-0.0 c.loop-p.p-index c.p-item.result c.loop-p-test.true c.p-item.is
    (c.in_err-next.ensures.past (greatest_exponent c.args.polynomials.now) (c.as_slice.ensures.value ∙ c.in_ok-greatest.ensures)))
