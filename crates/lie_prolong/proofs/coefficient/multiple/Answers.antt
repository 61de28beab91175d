use Rattle.std.proofs.lemmas.Result.{err_from_is_err_and}
use Rattle.lie_jet.proofs.BoundedPolynomials.{cause_bounded}
use Rattle.lie_jet.proofs.TotalSteps.{if_err}
use Rattle.lie_prolong.proofs.Multiples.{product_bounded}
use Rattle.lie_prolong.proofs.Causes.{cause_times}
use Rattle.lie_prolong.proofs.coefficient.multiple.Goals as goal

pub returns-in_err-derivative-clause-past : goal.returns-in_err-derivative-clause-past
returns-in_err-derivative-clause-past c =
    let p = err_from_is_err_and c.from_residual.result c.from_residual.ensures.1 in
    rw (p.1, p.2) (cause_times _ c.args.var _ c.in_err-derivative.ensures.past)

pub returns-clause-past : goal.returns-clause-past
returns-clause-past c = if_err c.mul.result (λ fail h. cause_bounded fail _ _ (product_bounded c.args.space c.requires.small c.args.k c.requires.within c.args.p.now _ _ c.args.var c.in_ok-derivative.ensures.total c.in_ok-variable.ensures) h) c.mul.ensures.past
