use Rattle.std.proofs.Common.{take}
use Rattle.lie_lin.specs.Forms.{derivatives_of, triples_of, AreDerivatives}
use Rattle.lie_lin.proofs.derivatives.derivatives.Given as goal

abbrev pub invariant-loop-triple : goal.invariant-loop-triple
invariant-loop-triple l = AreDerivatives (derivatives_of l.ders.items) (triples_of (take l.triple-index l.list))
