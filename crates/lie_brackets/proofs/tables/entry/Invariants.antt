use Rattle.std.proofs.Common.{take}
use Rattle.lie_brackets.specs.FieldTerms.{field_of_terms}
use Rattle.lie_brackets.specs.Generators.{AreCoordinates}
use Rattle.lie_brackets.proofs.tables.entry.Given as goal

abbrev pub invariant-loop-generator : goal.invariant-loop-generator
invariant-loop-generator l = AreCoordinates (field_of_terms l.terms.items) (take l.generator-index l.generators) l.ratios.items
