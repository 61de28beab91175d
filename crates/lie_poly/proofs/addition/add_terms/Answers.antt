use Rattle.std.proofs.Common.{◌<◌, ◌+◌, ◌-◌, arith, length, Less, Greater, Equal}
use Rattle.std.proofs.lemmas.Result.{err_from_is_err_and}
use Rattle.lie_poly.proofs.Additions.{term_order, added_start, added_less, many_less, added_greater, many_greater, added_equal, wide_both, many_equal, added_end}
use Rattle.lie_poly.proofs.MergeSteps.{full_cause, wide_number_cause}
use Rattle.lie_poly.proofs.PackedSteps.{rests, left_in_less, right_in_greater, left_in_equal, right_in_equal}
use Rattle.lie_poly.proofs.addition.add_terms.Goals as goal
use Rattle.lie_poly.proofs.addition.add_terms.Goals.{then-i-left, else-i-left+then-j-right}

pub loop-i-init : goal.loop-i-init
loop-i-init g c = record {
  left_in = omega arith;
  right_in = omega arith;
  added = added_start g.C.Ring.value c.args.left.now c.args.right.now c.new-out.result.items c.new-out.ensures.items c.requires.left_sorted c.requires.right_sorted;
}

pub loop-i-preserved-in-Less : goal.loop-i-preserved-in-Less
loop-i-preserved-in-Less g c =
    let inv = c.loop-i.invariant in
    let order = rests term_order c.args.left.now c.args.right.now c.loop-i.i c.loop-i.j Less c.in-Less.ensures in
    let lt : c.loop-i.i < length c.args.left.now = left_in_less term_order c.args.left.now c.args.right.now c.loop-i.i c.loop-i.j order in
    record {
      left_in = omega (arith, lt);
      right_in = inv.right_in;
      added = added_less g.C.Ring.value c.args.left.now c.args.right.now c.loop-i.i c.loop-i.j c.loop-i.out.items c.loop-i.count inv.added c.index-left-i.result lt c.index-left-i.is order
          _ _ c.put.new.to.items c.put.new.count c.in_ok-term-in-Less.ensures.mono c.in_ok-term-in-Less.ensures.number c.in_ok-put-in-Less.ensures.items c.in_ok-put-in-Less.ensures.count c.in_ok-put-in-Less.ensures.room;
    }

pub loop-i-preserved-in-Greater : goal.loop-i-preserved-in-Greater
loop-i-preserved-in-Greater g c =
    let inv = c.loop-i.invariant in
    let order = rests term_order c.args.left.now c.args.right.now c.loop-i.i c.loop-i.j Greater c.in-Greater.ensures in
    let some : 0 < (length c.args.left.now - c.loop-i.i) + (length c.args.right.now - c.loop-i.j) =
    elim c.if-i-left.branch [ then-i-left w ↦ omega arith | else-i-left+then-j-right w ↦ omega arith ] in
    let lt : c.loop-i.j < length c.args.right.now = right_in_greater term_order c.args.left.now c.args.right.now c.loop-i.i c.loop-i.j order some in
    record {
      left_in = inv.left_in;
      right_in = omega (arith, lt);
      added = added_greater g.C.Ring.value c.args.left.now c.args.right.now c.loop-i.i c.loop-i.j c.loop-i.out.items c.loop-i.count inv.added c.index-right-j.result lt c.index-right-j.is order
          _ _ c.put-in-Greater.new.to.items c.put-in-Greater.new.count c.in_ok-term-in-Greater.ensures.mono c.in_ok-term-in-Greater.ensures.number c.in_ok-put-in-Greater.ensures.items c.in_ok-put-in-Greater.ensures.count c.in_ok-put-in-Greater.ensures.room;
    }

pub loop-i-preserved : goal.loop-i-preserved
loop-i-preserved g c =
    let inv = c.loop-i.invariant in
    let order = rests term_order c.args.left.now c.args.right.now c.loop-i.i c.loop-i.j Equal c.in-Equal.ensures in
    let lt : c.loop-i.i < length c.args.left.now = left_in_equal term_order c.args.left.now c.args.right.now c.loop-i.i c.loop-i.j order in
    let lt_right : c.loop-i.j < length c.args.right.now = right_in_equal term_order c.args.left.now c.args.right.now c.loop-i.i c.loop-i.j order in
    record {
      left_in = omega (arith, lt);
      right_in = omega (arith, lt_right);
      added = added_equal g.C.Ring.value c.args.left.now c.args.right.now c.loop-i.i c.loop-i.j c.loop-i.out.items c.loop-i.count inv.added c.index-left-i-in-Equal.result c.index-right-j-in-Equal.result lt lt_right c.index-left-i-in-Equal.is c.index-right-j-in-Equal.is order
          c.in_ok-term-in-Equal.term c.in_ok-term-in-Equal.ensures.mono c.in_ok-term-in-Equal.ensures.number c.in_ok-term-in-Equal.ensures.within c.put-in-Equal.new.to.items c.put-in-Equal.new.count c.in_ok-put-in-Equal.ensures.items c.in_ok-put-in-Equal.ensures.count c.in_ok-put-in-Equal.ensures.room;
    }

pub returns-clause-sum : goal.returns-clause-sum
returns-clause-sum g c =
    let inv = c.loop-i.invariant in
    added_end g.C.Ring.value c.args.left.now c.args.right.now c.loop-i.i c.loop-i.j c.loop-i.out.items c.loop-i.count inv.added (omega (arith, c.if-i-left.false)) (omega (arith, c.if-j-right.false))

pub returns-in_err-put-in-Less-clause-past : goal.returns-in_err-put-in-Less-clause-past
returns-in_err-put-in-Less-clause-past g c =
    let inv = c.loop-i.invariant in
    let p = err_from_is_err_and c.from_residual-in_err-put-in-Less.result c.from_residual-in_err-put-in-Less.ensures.1 in
    let order = rests term_order c.args.left.now c.args.right.now c.loop-i.i c.loop-i.j Less c.in-Less.ensures in
    let lt : c.loop-i.i < length c.args.left.now = left_in_less term_order c.args.left.now c.args.right.now c.loop-i.i c.loop-i.j order in
    rw (p.1, p.2)
    (full_cause _ _ _ (many_less g.C.Ring.value c.args.left.now c.args.right.now c.loop-i.i c.loop-i.j c.loop-i.out.items c.loop-i.count inv.added c.index-left-i.result lt c.index-left-i.is order)
    c.in_err-put-in-Less.ensures.full)

pub returns-in_err-put-in-Greater-clause-past : goal.returns-in_err-put-in-Greater-clause-past
returns-in_err-put-in-Greater-clause-past g c =
    let inv = c.loop-i.invariant in
    let p = err_from_is_err_and c.from_residual-in_err-put-in-Greater.result c.from_residual-in_err-put-in-Greater.ensures.1 in
    let order = rests term_order c.args.left.now c.args.right.now c.loop-i.i c.loop-i.j Greater c.in-Greater.ensures in
    let some : 0 < (length c.args.left.now - c.loop-i.i) + (length c.args.right.now - c.loop-i.j) =
    elim c.if-i-left.branch [ then-i-left w ↦ omega arith | else-i-left+then-j-right w ↦ omega arith ] in
    let lt : c.loop-i.j < length c.args.right.now = right_in_greater term_order c.args.left.now c.args.right.now c.loop-i.i c.loop-i.j order some in
    rw (p.1, p.2)
    (full_cause _ _ _ (many_greater g.C.Ring.value c.args.left.now c.args.right.now c.loop-i.i c.loop-i.j c.loop-i.out.items c.loop-i.count inv.added c.index-right-j.result lt c.index-right-j.is order)
    c.in_err-put-in-Greater.ensures.full)

pub returns-in_err-term-in-Equal-clause-past : goal.returns-in_err-term-in-Equal-clause-past
returns-in_err-term-in-Equal-clause-past g c =
    let inv = c.loop-i.invariant in
    let p = err_from_is_err_and c.from_residual-in_err-term-in-Equal.result c.from_residual-in_err-term-in-Equal.ensures.1 in
    let order = rests term_order c.args.left.now c.args.right.now c.loop-i.i c.loop-i.j Equal c.in-Equal.ensures in
    let lt : c.loop-i.i < length c.args.left.now = left_in_equal term_order c.args.left.now c.args.right.now c.loop-i.i c.loop-i.j order in
    let lt_right : c.loop-i.j < length c.args.right.now = right_in_equal term_order c.args.left.now c.args.right.now c.loop-i.i c.loop-i.j order in
    rw (p.1, p.2)
    (wide_number_cause _ _ _ (wide_both g.C.Ring.value c.args.left.now c.args.right.now c.loop-i.i c.loop-i.j c.loop-i.out.items c.loop-i.count inv.added c.index-left-i-in-Equal.result c.index-right-j-in-Equal.result lt lt_right c.index-left-i-in-Equal.is c.index-right-j-in-Equal.is order)
    c.in_err-term-in-Equal.ensures.wide)

pub returns-in_err-put-in-Equal-clause-past : goal.returns-in_err-put-in-Equal-clause-past
returns-in_err-put-in-Equal-clause-past g c =
    let inv = c.loop-i.invariant in
    let p = err_from_is_err_and c.from_residual-in_err-put-in-Equal.result c.from_residual-in_err-put-in-Equal.ensures.1 in
    let order = rests term_order c.args.left.now c.args.right.now c.loop-i.i c.loop-i.j Equal c.in-Equal.ensures in
    let lt : c.loop-i.i < length c.args.left.now = left_in_equal term_order c.args.left.now c.args.right.now c.loop-i.i c.loop-i.j order in
    let lt_right : c.loop-i.j < length c.args.right.now = right_in_equal term_order c.args.left.now c.args.right.now c.loop-i.i c.loop-i.j order in
    rw (p.1, p.2)
    (full_cause _ _ _ (many_equal g.C.Ring.value c.args.left.now c.args.right.now c.loop-i.i c.loop-i.j c.loop-i.out.items c.loop-i.count inv.added c.index-left-i-in-Equal.result c.index-right-j-in-Equal.result lt lt_right c.index-left-i-in-Equal.is c.index-right-j-in-Equal.is order
    c.in_ok-term-in-Equal.term c.in_ok-term-in-Equal.ensures.mono c.in_ok-term-in-Equal.ensures.number c.in_ok-term-in-Equal.ensures.within)
    c.in_err-put-in-Equal.ensures.full)
