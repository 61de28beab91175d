use Rattle.std.proofs.Common.{◌≡◌, ◌≤◌, ◌-◌, [], length, replicate, vec_len}
use Rattle.lie_rules.specs.Powers.{groups_of}
use Rattle.lie_rules.proofs.powers.empty_groups.Given as goal

abbrev pub invariant-loop-alloc : goal.invariant-loop-alloc
invariant-loop-alloc l = record {
  empty : groups_of l.groups.items ≡ replicate (length l.groups.items) [];
  few : length l.groups.items ≤ l.count;
}

abbrev pub decreases-loop-alloc : goal.decreases-loop-alloc
decreases-loop-alloc l = l.count - vec_len l.groups
