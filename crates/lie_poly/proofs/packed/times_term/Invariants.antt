use Rattle.lie_poly.proofs.PackedProducts.{MultipliedSoFar}
use Rattle.lie_poly.proofs.packed.times_term.Given as goal

abbrev pub invariant-loop-term : goal.invariant-loop-term
invariant-loop-term g l = MultipliedSoFar g.C.Ring.value l.factor l.terms l.term-index l.out.items
