use Rattle.std.proofs.Common.{◌≡◌, take}
use Rattle.lie_ring.specs.Entries.{entries}
use Rattle.lie_poly.proofs.flat.copy_terms.Given as goal

abbrev pub invariant-loop-term : goal.invariant-loop-term
invariant-loop-term g l = entries g.C.Ring.value l.out.items ≡ entries g.C.Ring.value (take l.term-index l.terms)
