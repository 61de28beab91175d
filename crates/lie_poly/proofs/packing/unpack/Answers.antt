use Rattle.std.proofs.Common.{arith}
use Rattle.lie_poly.proofs.PackingSteps.{unpacked_start, unpacked_more, unpacked_all}
use Rattle.lie_poly.proofs.packing.unpack.Goals as goal

pub loop-sum-init : goal.loop-sum-init
loop-sum-init g c = unpacked_start g.C.Ring.value c.args.base c.args.vars.now c.args.most c.args.packed.now c.new-out.result.items c.new-out.ensures.items

pub loop-sum-preserved : goal.loop-sum-preserved
loop-sum-preserved g c =
    unpacked_more g.C.Ring.value c.args.base c.args.vars.now c.args.most c.args.packed.now c.loop-sum.sum-index c.sum-item.result c.loop-sum.out.items c.put_term.new.out.items
    (omega (arith, c.loop-sum-test.true)) c.sum-item.is c.loop-sum.invariant c.in_ok-put_term.ensures

pub returns : goal.returns
returns g c =
    unpacked_all g.C.Ring.value c.args.base c.args.vars.now c.args.most c.args.packed.now c.loop-sum.sum-index c.loop-sum.out.items (omega (arith, c.loop-sum-test.false)) c.loop-sum.invariant
