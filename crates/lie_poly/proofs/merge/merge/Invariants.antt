use Rattle.std.proofs.Common.{length, ◌+◌, reverse}
use Rattle.lie_poly.proofs.MergeSteps.{State}
use Rattle.lie_poly.proofs.merge.merge.Given as goal

abbrev pub invariant-loop-right : goal.invariant-loop-right
invariant-loop-right g l = State g.C.Ring.value l.out.items (reverse l.left.items) (reverse l.right.items) (reverse l.fn.left.items) (reverse l.fn.right.items)

abbrev pub decreases-loop-right : goal.decreases-loop-right
decreases-loop-right g l = length l.left.items + length l.right.items
