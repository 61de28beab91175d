use Rattle.lie_poly.proofs.PackingSteps.{UnpackedSoFar}
use Rattle.lie_poly.proofs.packing.unpack.Given as goal

abbrev pub invariant-loop-sum : goal.invariant-loop-sum
invariant-loop-sum g l = UnpackedSoFar g.C.Ring.value l.base l.vars l.most l.packed l.sum-index l.out.items
