use Rattle.std.proofs.lemmas.Result.{err_from_is_err_and}
use Rattle.lie_poly.proofs.SumSteps.{cause_covered}
use Rattle.lie_poly.proofs.TimesSteps.{entry_not_zero}
use Rattle.lie_brackets.proofs.DerivedTerms.{no_products, product_covered, products_more, products_more_bulk}
use Rattle.lie_brackets.proofs.derivations.push_products.Goals as goal

pub loop-term-init : goal.loop-term-init
loop-term-init c = record { sum = no_products _ _; bulk = no_products _ _ }

pub push_product-requires-clause-left : goal.push_product-requires-clause-left
push_product-requires-clause-left c =
    entry_not_zero c.args.terms.now c.loop-term.term-index c.term-item.result c.requires.terms c.loop-term-test.true c.term-item.is

pub returns-in_err-push_product-clause-past : goal.returns-in_err-push_product-clause-past
returns-in_err-push_product-clause-past c =
    let p = err_from_is_err_and c.from_residual.result c.from_residual.ensures.1 in
    rw (p.1, p.2) (cause_covered _ _ _ (product_covered c.args.terms.now c.args.mono.now c.args.number c.loop-term.term-index c.term-item.result c.loop-term-test.true c.term-item.is) c.in_err-push_product.ensures.past)

pub loop-term-preserved : goal.loop-term-preserved
loop-term-preserved c = record {
  sum = products_more c.args.terms.now c.args.mono.now c.args.number c.args.made.now.items c.loop-term.made.items c.push_product.new.made.items c.loop-term.term-index c.term-item.result c.loop-term-test.true c.term-item.is c.in_ok-push_product.ensures.pushed c.loop-term.invariant.sum;
  bulk = products_more_bulk c.args.terms.now c.args.mono.now c.args.number c.args.made.now.items c.loop-term.made.items c.push_product.new.made.items c.loop-term.term-index c.term-item.result c.loop-term-test.true c.term-item.is c.in_ok-push_product.ensures.pushed c.loop-term.invariant.bulk;
}
