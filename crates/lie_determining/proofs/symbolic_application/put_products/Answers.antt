use Rattle.std.proofs.lemmas.Result.{err_from_is_err_and}
use Rattle.lie_determining.proofs.AppliedForms.{products_start, products_more, products_end, products_cause}
use Rattle.lie_determining.proofs.symbolic_application.put_products.Goals as goal

pub loop-term-init : goal.loop-term-init
loop-term-init c = products_start c.args.slope.now c.args.form.now c.terms-term-items.result.now c.terms-term-items.ensures c.args.sum.now

pub returns-in_err-put_product-clause-past : goal.returns-in_err-put_product-clause-past
returns-in_err-put_product-clause-past c =
    let p = err_from_is_err_and c.from_residual.result c.from_residual.ensures.1 in
    rw (p.1, p.2) (products_cause c.args.slope.now c.args.form.now c.terms-term-items.result.now c.terms-term-items.ensures _ c.args.sum.now c.loop-term.sum c.loop-term.term-index c.term-item.result c.loop-term-test.true c.term-item.is c.loop-term.invariant c.in_err-put_product.ensures.past)

pub loop-term-preserved : goal.loop-term-preserved
loop-term-preserved c = products_more c.args.slope.now c.args.form.now c.terms-term-items.result.now c.terms-term-items.ensures c.args.sum.now c.loop-term.sum c.put_product.new.sum c.loop-term.term-index c.term-item.result c.loop-term-test.true c.term-item.is c.loop-term.invariant c.in_ok-put_product.ensures.sum

pub returns-clause-sum : goal.returns-clause-sum
returns-clause-sum c = products_end c.args.slope.now c.args.form.now c.terms-term-items.result.now c.terms-term-items.ensures c.args.sum.now c.loop-term.sum c.loop-term.term-index c.loop-term-test.false c.loop-term.invariant
