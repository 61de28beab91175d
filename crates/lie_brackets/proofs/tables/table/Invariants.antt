use Rattle.lie_brackets.specs.Generators.{fields_of, pairs_before, AreEntriesWithin}
use Rattle.lie_brackets.specs.Tables.{lists_of}
use Rattle.lie_brackets.proofs.tables.table.Given as goal

abbrev pub invariant-loop-first : goal.invariant-loop-first
invariant-loop-first l = AreEntriesWithin l.space (fields_of l.generators.items) (pairs_before l.first (fields_of l.generators.items)) (lists_of l.entries.items)
