use Rattle.std.proofs.Common.{◌<◌, ◌+◌, ◌-◌, arith, length, Less, Greater, Equal}
use Rattle.lie_poly.proofs.PackedSteps.{word_order, rests, left_in_less, right_in_greater, left_in_equal, right_in_equal, merged_start, merged_less, merged_greater, merged_equal, merged_end}
use Rattle.lie_poly.proofs.packed.merge.Goals as goal
use Rattle.lie_poly.proofs.packed.merge.Goals.{then-i-left, else-i-left+then-j-right}

pub loop-i-init : goal.loop-i-init
loop-i-init g c = record {
  left_in = omega arith;
  right_in = omega arith;
  merged = merged_start g.C.Ring.value c.args.left.now c.args.right.now c.in_ok-out.out.items c.in_ok-out.ensures;
}

pub loop-i-preserved-in-Less : goal.loop-i-preserved-in-Less
loop-i-preserved-in-Less g c =
    let inv = c.loop-i.invariant in
    let order = rests word_order c.args.left.now c.args.right.now c.loop-i.i c.loop-i.j Less c.in-Less.ensures in
    let lt : c.loop-i.i < length c.args.left.now = left_in_less word_order c.args.left.now c.args.right.now c.loop-i.i c.loop-i.j order in
    record {
      left_in = omega (arith, lt);
      right_in = inv.right_in;
      merged = merged_less g.C.Ring.value c.args.left.now c.args.right.now c.loop-i.i c.loop-i.j c.loop-i.out.items inv.merged c.index-left-i.result c.copy_of.result c.put.new.to.items lt c.index-left-i.is order
          c.copy_of.ensures.word c.copy_of.ensures.sum c.copy_of.ensures.bulk c.in_ok-put-in-Less.ensures.items c.in_ok-put-in-Less.ensures.room;
    }

pub loop-i-preserved-in-Greater : goal.loop-i-preserved-in-Greater
loop-i-preserved-in-Greater g c =
    let inv = c.loop-i.invariant in
    let order = rests word_order c.args.left.now c.args.right.now c.loop-i.i c.loop-i.j Greater c.in-Greater.ensures in
    let some : 0 < (length c.args.left.now - c.loop-i.i) + (length c.args.right.now - c.loop-i.j) =
    elim c.if-i-left.branch [ then-i-left w ↦ omega arith | else-i-left+then-j-right w ↦ omega arith ] in
    let lt : c.loop-i.j < length c.args.right.now = right_in_greater word_order c.args.left.now c.args.right.now c.loop-i.i c.loop-i.j order some in
    record {
      left_in = inv.left_in;
      right_in = omega (arith, lt);
      merged = merged_greater g.C.Ring.value c.args.left.now c.args.right.now c.loop-i.i c.loop-i.j c.loop-i.out.items inv.merged c.index-right-j.result c.copy_of-in-Greater.result c.put-in-Greater.new.to.items lt c.index-right-j.is order
          c.copy_of-in-Greater.ensures.word c.copy_of-in-Greater.ensures.sum c.copy_of-in-Greater.ensures.bulk c.in_ok-put-in-Greater.ensures.items c.in_ok-put-in-Greater.ensures.room;
    }

pub loop-i-preserved : goal.loop-i-preserved
loop-i-preserved g c =
    let inv = c.loop-i.invariant in
    let order = rests word_order c.args.left.now c.args.right.now c.loop-i.i c.loop-i.j Equal c.in-Equal.ensures in
    let lt : c.loop-i.i < length c.args.left.now = left_in_equal word_order c.args.left.now c.args.right.now c.loop-i.i c.loop-i.j order in
    let lt_right : c.loop-i.j < length c.args.right.now = right_in_equal word_order c.args.left.now c.args.right.now c.loop-i.i c.loop-i.j order in
    record {
      left_in = omega (arith, lt);
      right_in = omega (arith, lt_right);
      merged = merged_equal g.C.Ring.value c.args.left.now c.args.right.now c.loop-i.i c.loop-i.j c.loop-i.out.items inv.merged c.index-left-i-in-Equal.result c.index-right-j-in-Equal.result c.in_ok-sum-in-Equal.sum c.put-in-Equal.new.to.items lt lt_right c.index-left-i-in-Equal.is c.index-right-j-in-Equal.is order
          c.in_ok-sum-in-Equal.ensures.word c.in_ok-sum-in-Equal.ensures.sum c.in_ok-sum-in-Equal.ensures.bulk c.in_ok-sum-in-Equal.ensures.fits c.in_ok-put-in-Equal.ensures.items c.in_ok-put-in-Equal.ensures.room;
    }

pub returns : goal.returns
returns g c =
    let inv = c.loop-i.invariant in
    merged_end g.C.Ring.value c.args.left.now c.args.right.now c.loop-i.i c.loop-i.j c.loop-i.out.items inv.merged (omega (arith, c.if-i-left.false)) (omega (arith, c.if-j-right.false))
