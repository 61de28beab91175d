use Rattle.std.proofs.Common.{take}
use Rattle.lie_ring.specs.Entries.{entries}
use Rattle.lie_poly.proofs.TimesSteps.{Multiplied}
use Rattle.lie_poly.proofs.product.times_term.Given as goal

abbrev pub invariant-loop-factor : goal.invariant-loop-factor
invariant-loop-factor g l = Multiplied g.C.Ring.value l.mono (g.C.Ring.value l.c) (entries g.C.Ring.value (take l.factor-index l.terms)) l.out.items
