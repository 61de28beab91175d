use Rattle.std.proofs.Common.{◌≡◌, ◌≤◌, ◌+◌, take}
use Rattle.lie_systems.specs.Bulk.{triple_count_of_all}
use Rattle.lie_determining.proofs.equations.count_triples.Given as goal

abbrev pub invariant-loop-eq : goal.invariant-loop-eq
invariant-loop-eq l = record {
  count : l.count ≡ l.fn.others + triple_count_of_all (take l.eq-index l.list);
  small : l.count ≤ 1000000;
}
