use Rattle.std.proofs.Common.{◌≡◌, ◌++◌, drop}
use Rattle.lie_spans.specs.Elimination.{negated_row}
use Rattle.lie_rows.proofs.row.negated_row.Given as goal

abbrev pub invariant-loop-entry : goal.invariant-loop-entry
invariant-loop-entry l = l.out.items ++ negated_row (drop l.entry-index l.row) ≡ negated_row l.row
