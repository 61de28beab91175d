use Rattle.std.proofs.Common.{◌≡◌, ℕ, ◌<◌, pos}
use Rattle.lie_spans.specs.Rows.{entry}
use Rattle.lie_rows.specs.Rows.{row_at}
use Rattle.lie_rows.proofs.rows.first_with.Given as goal

abbrev pub invariant-loop-i : goal.invariant-loop-i
invariant-loop-i l = (j : ℕ) → j < l.i → entry (row_at l.rows j) l.column ≡ pos 0
