use Rattle.std.proofs.Common.{◌≡◌, ◌-◌, ◌≤◌, ◌+◌, drop, length}
use Rattle.lie_file.specs.Places.{not_allowed_from}
use Rattle.lie_file.proofs.reading.first_not_allowed.Given as goal

abbrev pub decreases-loop-i : goal.decreases-loop-i
decreases-loop-i l = length l.bytes - l.i

abbrev pub invariant-loop-i : goal.invariant-loop-i
invariant-loop-i l = record {
  same : not_allowed_from 1 1 l.bytes ≡ not_allowed_from l.line l.column (drop l.i l.bytes);
  line_low : l.line ≤ l.i + 1;
  column_low : l.column ≤ l.i + 1;
}
