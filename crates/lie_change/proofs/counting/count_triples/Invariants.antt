use Rattle.std.proofs.Common.{◌≡◌, ◌≤◌, ◌+◌, take}
use Rattle.lie_math.specs.Limits.{greatest_term_count}
use Rattle.lie_systems.specs.Bulk.{triple_count_of_all}
use Rattle.lie_change.proofs.counting.count_triples.Given as goal

abbrev pub invariant-loop-form : goal.invariant-loop-form
invariant-loop-form l = record {
  count : l.count ≡ l.before + triple_count_of_all (take l.form-index l.forms);
  few : l.count ≤ greatest_term_count;
}
