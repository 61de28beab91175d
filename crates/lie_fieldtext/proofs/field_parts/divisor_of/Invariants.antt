use Rattle.std.proofs.Common.{◌≡◌, ◌≤◌, drop}
use Rattle.lie_fieldtext.specs.FieldAnswers.{content_from}
use Rattle.lie_fieldtext.proofs.field_parts.divisor_of.Given as goal

abbrev pub invariant-loop-term : goal.invariant-loop-term
invariant-loop-term l = record {
  same : content_from l.number l.term-items ≡ content_from l.divisor (drop l.term-index l.term-items);
  some : 1 ≤ l.divisor;
}
