use Rattle.std.proofs.Common.{◌≡◌, ◌++◌, take}
use Rattle.lie_systems.specs.Triples.{triples_in}
use Rattle.lie_lin.specs.Forms.{coefficients_of, triples_of}
use Rattle.lie_change.proofs.dividing.push_form.Given as goal

abbrev pub invariant-loop-term : goal.invariant-loop-term
invariant-loop-term l = triples_of l.list.items ≡ triples_of l.initial.list.items
    ++ triples_in (coefficients_of (take l.term-index l.term-items))
