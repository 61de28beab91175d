use Rattle.std.proofs.Common.{drop, ◌↔◌}
use Rattle.lie_spans.specs.Rows.{HaveLength}
use Rattle.lie_rows.specs.Rows.{rows_of}
use Rattle.lie_rows.proofs.lengths.have_length.Given as goal

abbrev pub invariant-loop-row : goal.invariant-loop-row
invariant-loop-row l = HaveLength l.columns (rows_of (drop l.row-index l.rows)) ↔ HaveLength l.columns (rows_of l.rows)
