use Rattle.std.proofs.Common.{◌≡◌, ◌<◌, ◌≤◌, length, drop}
use Rattle.lie_math.specs.Limits.{number_limit}
use Rattle.lie_spans.specs.Solutions.{last_multiple}
use Rattle.lie_rows.specs.Rows.{rows_of}
use Rattle.lie_rows.proofs.solutions.multiple_of.Given as goal

abbrev pub invariant-loop-left : goal.invariant-loop-left
invariant-loop-left l = record {
  within : l.left ≤ length l.kept.rows.items;
  value : l.found ≡ last_multiple l.column (rows_of (drop l.left l.kept.rows.items));
  bound : l.found < number_limit;
}

abbrev pub decreases-loop-left : goal.decreases-loop-left
decreases-loop-left l = l.left
