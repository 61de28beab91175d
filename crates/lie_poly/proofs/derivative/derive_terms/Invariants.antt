use Rattle.std.proofs.Common.{◌≡◌, take}
use Rattle.lie_math.proofs.TermWise.{derived_list}
use Rattle.lie_ring.specs.Entries.{entries}
use Rattle.lie_poly.proofs.DerivativeSteps.{AreFitting}
use Rattle.lie_poly.proofs.derivative.derive_terms.Given as goal

abbrev pub invariant-loop-term : goal.invariant-loop-term
invariant-loop-term g l = record {
  made : entries g.C.Ring.value l.out.items ≡ derived_list l.var (entries g.C.Ring.value (take l.term-index l.terms));
  fitting : AreFitting l.var (entries g.C.Ring.value (take l.term-index l.terms));
}
