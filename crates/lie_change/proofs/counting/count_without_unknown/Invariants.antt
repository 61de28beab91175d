use Rattle.std.proofs.Common.{◌≡◌, ◌≤◌, take}
use Rattle.lie_math.specs.Limits.{greatest_term_count}
use Rattle.lie_systems.specs.Bulk.{triple_count_of_all}
use Rattle.lie_change.specs.Lists.{unmentioned}
use Rattle.lie_change.proofs.counting.count_without_unknown.Given as goal

abbrev pub invariant-loop-equation : goal.invariant-loop-equation
invariant-loop-equation l = record {
  count : l.count ≡ triple_count_of_all (unmentioned l.number (take l.equation-index l.equations));
  few : l.count ≤ greatest_term_count;
}
