use Rattle.std.proofs.Common.{sym, subst, arith, reverse, Less, Greater, Equal}
use Rattle.std.proofs.lemmas.List.{nil_from_length}
use Rattle.std.proofs.lemmas.Result.{err_from_is_err_and}
use Rattle.lie_poly.proofs.MergeSteps.{State, state_start, full_cause, wide_cause}
use Rattle.lie_poly.proofs.MergeTurns.{same_firsts, turn_less, stop_less, turn_greater, stop_greater, stop_wide, turn_equal, stop_equal, turns_end}
use Rattle.lie_poly.proofs.merge.merge.Goals as goal

pub loop-right-init : goal.loop-right-init
loop-right-init g c =
    subst (λ out. State g.C.Ring.value out (reverse c.args.left.items) (reverse c.args.right.items) (reverse c.args.left.items) (reverse c.args.right.items)) (sym c.new-out.ensures.items)
    (state_start g.C.Ring.value (reverse c.args.left.items) (reverse c.args.right.items) c.requires.left_tallied c.requires.right_tallied)

pub loop-right-preserved-in-Continue-1 : goal.loop-right-preserved-in-Continue-1
loop-right-preserved-in-Continue-1 g c =
    turn_less g.C.Ring.value c.loop-right.out.items c.loop-right.left.items c.loop-right.right.items _ _ c.loop-right.invariant
    c.take_first-first.new.from.items c.take_first-first.result c.take_first-first.ensures (same_firsts Less _ _ _ _ c.as_slice.ensures.value c.as_slice-in-loop-right.ensures.value c.in-Less.ensures)
    c.push.new.to.items c.in_ok-push-in-Less.ensures.items c.in_ok-push-in-Less.ensures.room

pub returns-in_err-push-in-Less-clause-past : goal.returns-in_err-push-in-Less-clause-past
returns-in_err-push-in-Less-clause-past g c =
    let p = err_from_is_err_and c.from_residual.result c.from_residual.ensures.1 in
    rw (p.1, p.2)
    (full_cause _ _ _
    (stop_less g.C.Ring.value c.loop-right.out.items c.loop-right.left.items c.loop-right.right.items _ _ c.loop-right.invariant
    c.take_first-first.new.from.items c.take_first-first.result c.take_first-first.ensures (same_firsts Less _ _ _ _ c.as_slice.ensures.value c.as_slice-in-loop-right.ensures.value c.in-Less.ensures))
    c.in_err-push-in-Less.ensures.full)

pub loop-right-preserved-in-Continue-branch-2 : goal.loop-right-preserved-in-Continue-branch-2
loop-right-preserved-in-Continue-branch-2 g c =
    turn_greater g.C.Ring.value c.loop-right.out.items c.loop-right.left.items c.loop-right.right.items _ _ c.loop-right.invariant
    c.take_first-first-in-Greater.new.from.items c.take_first-first-in-Greater.result c.take_first-first-in-Greater.ensures (same_firsts Greater _ _ _ _ c.as_slice.ensures.value c.as_slice-in-loop-right.ensures.value c.in-Greater.ensures)
    c.push-in-Greater.new.to.items c.in_ok-push-in-Greater.ensures.items c.in_ok-push-in-Greater.ensures.room

pub returns-in_err-push-in-Greater-clause-past : goal.returns-in_err-push-in-Greater-clause-past
returns-in_err-push-in-Greater-clause-past g c =
    let p = err_from_is_err_and c.from_residual-in_err-push-in-Greater.result c.from_residual-in_err-push-in-Greater.ensures.1 in
    rw (p.1, p.2)
    (full_cause _ _ _
    (stop_greater g.C.Ring.value c.loop-right.out.items c.loop-right.left.items c.loop-right.right.items _ _ c.loop-right.invariant
    c.take_first-first-in-Greater.new.from.items c.take_first-first-in-Greater.result c.take_first-first-in-Greater.ensures (same_firsts Greater _ _ _ _ c.as_slice.ensures.value c.as_slice-in-loop-right.ensures.value c.in-Greater.ensures))
    c.in_err-push-in-Greater.ensures.full)

pub returns-in_err-both-in-Equal-clause-past : goal.returns-in_err-both-in-Equal-clause-past
returns-in_err-both-in-Equal-clause-past g c =
    let p = err_from_is_err_and c.from_residual-in_err-both-in-Equal.result c.from_residual-in_err-both-in-Equal.ensures.1 in
    rw (p.1, p.2)
    (wide_cause _ _ _
    (stop_wide g.C.Ring.value c.loop-right.out.items c.loop-right.left.items c.loop-right.right.items _ _ c.loop-right.invariant
    c.take_first-first-in-Equal.new.from.items c.take_first-second.new.from.items c.take_first-first-in-Equal.result c.take_first-second.result c.take_first-first-in-Equal.ensures c.take_first-second.ensures
    (same_firsts Equal _ _ _ _ c.as_slice.ensures.value c.as_slice-in-loop-right.ensures.value c.in-Equal.ensures))
    c.in_err-both-in-Equal.ensures.wide)

pub loop-right-preserved : goal.loop-right-preserved
loop-right-preserved g c =
    turn_equal g.C.Ring.value c.loop-right.out.items c.loop-right.left.items c.loop-right.right.items _ _ c.loop-right.invariant
    c.take_first-first-in-Equal.new.from.items c.take_first-second.new.from.items c.take_first-first-in-Equal.result c.take_first-second.result c.take_first-first-in-Equal.ensures c.take_first-second.ensures
    (same_firsts Equal _ _ _ _ c.as_slice.ensures.value c.as_slice-in-loop-right.ensures.value c.in-Equal.ensures)
    c.in_ok-both-in-Equal.both c.in_ok-both-in-Equal.ensures.mono c.in_ok-both-in-Equal.ensures.sum c.in_ok-both-in-Equal.ensures.bulk c.in_ok-both-in-Equal.ensures.within
    c.push-in-Equal.new.to.items c.in_ok-push-in-Equal.ensures.items c.in_ok-push-in-Equal.ensures.room

pub returns-in_err-push-in-Equal-clause-past : goal.returns-in_err-push-in-Equal-clause-past
returns-in_err-push-in-Equal-clause-past g c =
    let p = err_from_is_err_and c.from_residual-in_err-push-in-Equal.result c.from_residual-in_err-push-in-Equal.ensures.1 in
    rw (p.1, p.2)
    (full_cause _ _ _
    (stop_equal g.C.Ring.value c.loop-right.out.items c.loop-right.left.items c.loop-right.right.items _ _ c.loop-right.invariant
    c.take_first-first-in-Equal.new.from.items c.take_first-second.new.from.items c.take_first-first-in-Equal.result c.take_first-second.result c.take_first-first-in-Equal.ensures c.take_first-second.ensures
    (same_firsts Equal _ _ _ _ c.as_slice.ensures.value c.as_slice-in-loop-right.ensures.value c.in-Equal.ensures)
    c.in_ok-both-in-Equal.both c.in_ok-both-in-Equal.ensures.mono c.in_ok-both-in-Equal.ensures.sum c.in_ok-both-in-Equal.ensures.bulk c.in_ok-both-in-Equal.ensures.within)
    c.in_err-push-in-Equal.ensures.full)

pub returns-clause-sum : goal.returns-clause-sum
returns-clause-sum g c =
    turns_end g.C.Ring.value c.loop-right.out.items c.loop-right.left.items c.loop-right.right.items _ _ c.loop-right.invariant c.reverse.new.self.items (nil_from_length _ (omega arith)) (nil_from_length _ (omega arith)) c.reverse.ensures.items
