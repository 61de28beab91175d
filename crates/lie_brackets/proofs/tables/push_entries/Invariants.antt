use Rattle.std.proofs.Common.{◌<◌, ◌++◌}
use Rattle.lie_brackets.specs.Generators.{fields_of, pairs_before, pairs_from, AreEntriesWithin}
use Rattle.lie_brackets.specs.Tables.{lists_of}
use Rattle.lie_brackets.proofs.tables.push_entries.Given as goal

abbrev pub invariant-loop-second : goal.invariant-loop-second
invariant-loop-second l = record {
  after : l.first < l.second;
  made : AreEntriesWithin l.space (fields_of l.generators)
      (pairs_before l.first (fields_of l.generators) ++ pairs_from l.first l.second (fields_of l.generators)) (lists_of l.entries.items);
}
