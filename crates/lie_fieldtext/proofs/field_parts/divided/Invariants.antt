use Rattle.std.proofs.Common.{◌≡◌, take}
use Rattle.lie_fieldtext.specs.FieldAnswers.{times_entries}
use Rattle.lie_fieldtext.proofs.field_parts.divided.Given as goal

abbrev pub invariant-loop-term : goal.invariant-loop-term
invariant-loop-term l = times_entries l.divisor l.list.items ≡ take l.term-index l.term-items
