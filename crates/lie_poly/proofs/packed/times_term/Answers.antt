use Rattle.std.proofs.Common.{arith, ◌∙◌}
use Rattle.lie_poly.proofs.PackedProducts.{packed_start, packed_more, packed_end}
use Rattle.lie_poly.proofs.packed.times_term.Goals as goal

pub loop-term-init : goal.loop-term-init
loop-term-init g c = packed_start g.C.Ring.value c.args.factor.now c.args.terms.now c.in_ok-out.out.items c.in_ok-out.ensures

pub loop-term-preserved : goal.loop-term-preserved
loop-term-preserved g c =
    packed_more g.C.Ring.value c.args.factor.now c.args.terms.now c.loop-term.term-index c.loop-term.out.items c.loop-term.invariant c.term-item.result c.in_ok-product.product c.put.new.to.items (omega (arith, c.loop-term-test.true)) c.term-item.is
    c.in_ok-product.ensures.word c.in_ok-product.ensures.sum c.in_ok-product.ensures.bulk c.in_ok-product.ensures.fits c.in_ok-put.ensures.items

pub returns : goal.returns
returns g c =
    packed_end g.C.Ring.value c.args.factor.now c.args.terms.now c.loop-term.term-index c.loop-term.out.items c.loop-term.invariant (omega (arith, c.loop-term-test.false)) (λ e. c.if-size-eq0.false (c.size.ensures.size ∙ e))
