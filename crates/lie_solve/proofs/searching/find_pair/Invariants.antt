use Rattle.std.proofs.Common.{◌≡◌, ◌<◌, ◌≤◌, ◌-◌, length}
use Rattle.lie_steps.specs.Rules.{Cross}
use Rattle.lie_change.specs.Tried.{at}
use Rattle.lie_tables.specs.Tables.{Follows}
use Rattle.lie_solve.proofs.Pairs.{pair}
use Rattle.lie_solve.proofs.Searches.{IsReached}
use Rattle.lie_solve.proofs.searching.find_pair.Given as goal

abbrev pub invariant-loop-first : goal.invariant-loop-first
invariant-loop-first l = record {
  same : l.system ≡ l.initial.system;
  indexed : Follows l.initial.tables l.tables l.system.system.equations;
  reached : IsReached l.system.system Cross (at l.first);
}

abbrev pub invariant-loop-second : goal.invariant-loop-second
invariant-loop-second l = record {
  same : l.system ≡ l.initial.system;
  indexed : Follows l.initial.tables l.tables l.system.system.equations;
  after : l.first < l.from;
  within : l.from ≤ length l.system.system.equations;
  reached : IsReached l.system.system Cross (pair l.first l.from);
}

abbrev pub decreases-loop-second : goal.decreases-loop-second
decreases-loop-second l = length l.system.system.equations - l.from
