use Rattle.std.proofs.Common.{take, Some}
use Rattle.lie_fieldtext.specs.FieldAnswers.{IsSized}
use Rattle.lie_fieldtext.proofs.field_terms.sizes_of.Given as goal

abbrev pub invariant-loop-term : goal.invariant-loop-term
invariant-loop-term l = IsSized l.denominator (take l.term-index l.terms) (Some l.sizes)
