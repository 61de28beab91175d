use Rattle.std.proofs.lemmas.Result.{err_from_is_err_and}
use Rattle.lie_jet.specs.Derivatives.{derivative_of}
use Rattle.lie_jet.proofs.TotalSteps.{if_err}
use Rattle.lie_solved.specs.SolvedForms.{solved_equations}
use Rattle.lie_determining.proofs.ReducedForms.{reduced_cause, reduced_put_cause}
use Rattle.lie_reduce.proofs.ReductionSteps.{reduction_bounded}
use Rattle.lie_determining.proofs.symbolic_reduction.put_reduced.Goals as goal

pub returns-in_err-made-clause-past : goal.returns-in_err-made-clause-past
returns-in_err-made-clause-past c = λ e are.
    let rs = solved_equations c.args.space c.args.rules.now in
    let p = err_from_is_err_and c.from_residual.result c.from_residual.ensures.1 in
    rw (p.1, p.2) (reduced_cause rs e (λ a. (reduction_bounded rs e a)) _ c.args.sum.now (derivative_of c.args.term.now.0) c.args.term.now.1 (c.in_err-made.ensures.past e are))

pub returns-clause-past : goal.returns-clause-past
returns-clause-past c = λ e are.
    let rs = solved_equations c.args.space c.args.rules.now in
    if_err c.put.result (λ fail h. reduced_put_cause rs e (λ a. (reduction_bounded rs e a)) fail c.args.sum.now (derivative_of c.args.term.now.0) c.args.term.now.1 c.in_ok-made.made (c.in_ok-made.ensures.reduced e are) h) c.put.ensures.past
