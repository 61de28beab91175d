use Rattle.std.proofs.Common.{length, ◌-◌, ◌≡◌, ◌≤◌, drop}
use Rattle.std.specs.Cmp.Lexicographic.{slice_cmp}
use Rattle.lie_systems.specs.EquationOrder.{triple_cmp}
use Rattle.lie_lin.specs.Forms.{triples_of}
use Rattle.lie_lin.proofs.order.compare_lists.Given as goal

abbrev pub invariant-loop-i : goal.invariant-loop-i
invariant-loop-i l = record {
  left_in : l.i ≤ length l.left;
  right_in : l.i ≤ length l.right;
  rest : slice_cmp triple_cmp (triples_of (drop l.i l.left)) (triples_of (drop l.i l.right)) ≡ slice_cmp triple_cmp (triples_of l.left) (triples_of l.right);
}

abbrev pub decreases-loop-i : goal.decreases-loop-i
decreases-loop-i l = length l.left - l.i
