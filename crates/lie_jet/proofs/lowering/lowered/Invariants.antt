use Rattle.std.proofs.Common.{◌≡◌, ◌≤◌, [], take, drop}
use Rattle.lie_geometry.specs.Prolongation.{indices_from}
use Rattle.lie_jet.proofs.lowering.lowered.Given as goal

abbrev pub invariant-loop-i : goal.invariant-loop-i
invariant-loop-i l = (l.i ≤ l.fn.space.p) × (indices_from l.i (drop l.i (take l.fn.space.p l.jet.counts)) ≡ [])

abbrev pub decreases-loop-i : goal.decreases-loop-i
decreases-loop-i l = l.i
