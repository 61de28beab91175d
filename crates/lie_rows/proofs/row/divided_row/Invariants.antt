use Rattle.std.proofs.Common.{◌≡◌, ◌++◌, drop}
use Rattle.lie_spans.specs.Content.{divided_row}
use Rattle.lie_rows.proofs.row.divided_row.Given as goal

abbrev pub invariant-loop-entry : goal.invariant-loop-entry
invariant-loop-entry l = l.out.items ++ divided_row l.by (drop l.entry-index l.row) ≡ divided_row l.by l.row
