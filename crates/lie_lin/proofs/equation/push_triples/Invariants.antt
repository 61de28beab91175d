use Rattle.std.proofs.Common.{◌≡◌, ◌++◌}
use Rattle.lie_systems.specs.Triples.{triples_with}
use Rattle.lie_lin.specs.Forms.{triples_of}
use Rattle.lie_jet.specs.Derivatives.{derivative_of}
use Rattle.lie_lin.proofs.equation.push_triples.Given as goal

abbrev pub invariant-loop-mono : goal.invariant-loop-mono
invariant-loop-mono l = triples_of l.out.items ++ triples_with (derivative_of l.term.0) l.mono-iterator.rest.items ≡ triples_of l.fn.out.items ++ triples_with (derivative_of l.term.0) l.initial.mono-iterator.rest.items
