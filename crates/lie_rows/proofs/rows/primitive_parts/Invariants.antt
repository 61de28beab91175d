use Rattle.std.proofs.Common.{◌≡◌, ◌++◌, drop}
use Rattle.lie_spans.specs.Content.{primitive_parts}
use Rattle.lie_rows.specs.Rows.{rows_of}
use Rattle.lie_rows.proofs.rows.primitive_parts.Given as goal

abbrev pub invariant-loop-row : goal.invariant-loop-row
invariant-loop-row l = rows_of l.out.items ++ primitive_parts (rows_of (drop l.row-index l.rows)) ≡ primitive_parts (rows_of l.rows)
