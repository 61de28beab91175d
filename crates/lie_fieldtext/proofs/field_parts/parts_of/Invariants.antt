use Rattle.std.proofs.Common.{◌-◌, ◌≤◌}
use Rattle.lie_fieldtext.specs.FieldAnswers.{ArePartsOver}
use Rattle.lie_fieldtext.proofs.field_parts.parts_of.Given as goal

abbrev pub invariant-loop-place : goal.invariant-loop-place
invariant-loop-place l = record {
  parts : ArePartsOver l.denominator l.terms l.place l.parts.items;
  bound : l.place ≤ l.count;
}

abbrev pub decreases-loop-place : goal.decreases-loop-place
decreases-loop-place l = l.count - l.place
