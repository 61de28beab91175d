use Rattle.std.proofs.Common.{◌≡◌, ◌<◌, ◌≤◌, ◌^◌, length, drop}
use Rattle.lie_spans.specs.Content.{row_content}
use Rattle.lie_rows.proofs.row.content_of.Given as goal

abbrev pub invariant-loop-left : goal.invariant-loop-left
invariant-loop-left l = record { within : l.left ≤ length l.row; value : l.found ≡ row_content (drop l.left l.row); small : l.found < 2 ^ 127 }

abbrev pub decreases-loop-left : goal.decreases-loop-left
decreases-loop-left l = l.left
