use Rattle.std.proofs.lemmas.Result.{err_from_is_err_and}
use Rattle.lie_jet.specs.Derivatives.{derivative_of}
use Rattle.lie_jet.proofs.TotalSteps.{if_err}
use Rattle.lie_determining.proofs.AppliedForms.{product_cause, product_put_cause}
use Rattle.lie_determining.proofs.symbolic_application.put_product.Goals as goal

pub returns-in_err-product-clause-past : goal.returns-in_err-product-clause-past
returns-in_err-product-clause-past c =
    let p = err_from_is_err_and c.from_residual.result c.from_residual.ensures.1 in
    rw (p.1, p.2) (product_cause _ c.args.sum.now (derivative_of c.args.term.now.0) c.args.slope.now c.args.term.now.1 c.in_err-product.ensures.past)

pub returns-clause-past : goal.returns-clause-past
returns-clause-past c = if_err c.put.result (λ fail h. product_put_cause fail c.args.sum.now (derivative_of c.args.term.now.0) c.args.slope.now c.args.term.now.1 c.in_ok-product.product c.in_ok-product.ensures.product h) c.put.ensures.past
