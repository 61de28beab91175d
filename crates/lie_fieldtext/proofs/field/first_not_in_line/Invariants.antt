use Rattle.std.proofs.Common.{◌≡◌, ◌+◌, drop}
use Rattle.lie_fieldtext.specs.FieldFaults.{not_in_line_from}
use Rattle.lie_fieldtext.proofs.field.first_not_in_line.Given as goal

abbrev pub invariant-loop-byte : goal.invariant-loop-byte
invariant-loop-byte l = record {
  same : not_in_line_from 1 l.bytes ≡ not_in_line_from l.column (drop l.byte-index l.bytes);
  column : l.column ≡ l.byte-index + 1;
}
