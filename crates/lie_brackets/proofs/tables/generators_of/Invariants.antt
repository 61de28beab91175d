use Rattle.std.proofs.Common.{◌≡◌, take}
use Rattle.std.specs.List.{AllByRecursion as Every}
use Rattle.lie_brackets.specs.Generators.{IsGenerator, fields_of}
use Rattle.lie_brackets.proofs.tables.generators_of.Given as goal

abbrev pub invariant-loop-field : goal.invariant-loop-field
invariant-loop-field l = record {
  fields : fields_of l.generators.items ≡ take l.field-index l.basis;
  each : Every (IsGenerator l.space) l.generators.items;
}
