use Rattle.std.proofs.Common.{◌≡◌, true, take}
use Rattle.lie_tables.specs.Tables.{IsIndexOf}
use Rattle.lie_tables.proofs.tables.Tables.of.Given as goal

abbrev pub invariant-loop-place : goal.invariant-loop-place
invariant-loop-place l = record { kept : l.tables.kept ≡ true; index : IsIndexOf l.tables (take l.place l.equations) }
