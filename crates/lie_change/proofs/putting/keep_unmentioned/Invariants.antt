use Rattle.std.proofs.Common.{◌≡◌, ◌≤◌, ◌++◌, length, take, drop}
use Rattle.lie_tables.specs.Tables.{Follows}
use Rattle.lie_change.specs.Lists.{unmentioned}
use Rattle.lie_change.proofs.putting.keep_unmentioned.Given as goal

abbrev pub invariant-loop-place : goal.invariant-loop-place
invariant-loop-place l = record {
  within : l.place ≤ length l.initial.equations.items;
  items : l.equations.items ≡ take l.place l.initial.equations.items ++ unmentioned l.number (drop l.place l.initial.equations.items);
  indexed : Follows l.initial.tables l.tables l.equations.items;
}

abbrev pub decreases-loop-place : goal.decreases-loop-place
decreases-loop-place l = l.place
