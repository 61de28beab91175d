use Rattle.std.proofs.Common.{length, ◌-◌, ◌+◌, ◌≤◌}
use Rattle.lie_poly.proofs.PackedSteps.{MergedSoFar}
use Rattle.lie_poly.proofs.packed.merge.Given as goal

abbrev pub invariant-loop-i : goal.invariant-loop-i
invariant-loop-i g l = record {
  left_in : l.i ≤ length l.left;
  right_in : l.j ≤ length l.right;
  merged : MergedSoFar g.C.Ring.value l.left l.right l.i l.j l.out.items;
}

abbrev pub decreases-loop-i : goal.decreases-loop-i
decreases-loop-i g l = (length l.left - l.i) + (length l.right - l.j)
