use Rattle.std.proofs.Common.{take}
use Rattle.lie_poly.specs.Packed.{AreTerms}
use Rattle.lie_poly.proofs.packing.pack.Given as goal

abbrev pub invariant-loop-term : goal.invariant-loop-term
invariant-loop-term g l = AreTerms g.C.Ring.value l.base l.vars l.most l.out.items (take l.term-index l.terms)
