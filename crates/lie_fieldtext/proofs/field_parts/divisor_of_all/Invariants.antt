use Rattle.std.proofs.Common.{◌≡◌, ◌≤◌, drop}
use Rattle.lie_fieldtext.specs.FieldAnswers.{contents_from}
use Rattle.lie_fieldtext.proofs.field_parts.divisor_of_all.Given as goal

abbrev pub invariant-loop-part : goal.invariant-loop-part
invariant-loop-part l = record {
  same : contents_from l.number l.parts ≡ contents_from l.divisor (drop l.part-index l.parts);
  some : 1 ≤ l.divisor;
}
