use Rattle.std.proofs.Common.{◌≡◌, ◌≤◌, ◌+◌, drop, length}
use Rattle.lie_steps.specs.Absent.{fresh_sum}
use Rattle.lie_rules.proofs.fresh.fresh_sum.Given as goal

abbrev pub invariant-loop-i : goal.invariant-loop-i
invariant-loop-i l = record {
  sum : l.sum ≡ fresh_sum (l.next + l.i) (drop l.i l.powers);
  inside : l.i ≤ length l.powers;
}

abbrev pub decreases-loop-i : goal.decreases-loop-i
decreases-loop-i l = l.i
