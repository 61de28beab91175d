use Rattle.std.proofs.Common.{◌≡◌, take}
use Rattle.lie_systems.specs.Triples.{triples_in}
use Rattle.lie_lin.specs.Forms.{coefficients_of, triples_of}
use Rattle.lie_lin.proofs.equation.copy_triples.Given as goal

abbrev pub invariant-loop-term : goal.invariant-loop-term
invariant-loop-term l = triples_of l.out.items ≡ triples_in (coefficients_of (take l.term-index l.terms))
