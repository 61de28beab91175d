use Rattle.std.proofs.Common.{◌≡◌, ◌≤◌, ◌*◌, take, length}
use Rattle.lie_systems.specs.Triples.{triples_in}
use Rattle.lie_lin.specs.Forms.{coefficients_of}
use Rattle.lie_lin.proofs.order.form_triple_count.Given as goal

abbrev pub invariant-loop-term : goal.invariant-loop-term
invariant-loop-term l = record {
  count : l.count ≡ length (triples_in (coefficients_of (take l.term-index l.term-items)));
  small : l.count ≤ l.term-index * 1000000;
}
