use Rattle.std.proofs.Common.{◌≡◌, take}
use Rattle.lie_fieldtext.specs.FieldMeaning.{terms_over}
use Rattle.lie_fieldtext.proofs.field_parts.part_of.Given as goal

abbrev pub invariant-loop-term : goal.invariant-loop-term
invariant-loop-term l = l.list.items ≡ terms_over l.denominator l.place (take l.term-index l.terms)
