use Rattle.std.proofs.Common.{◌≡◌, ◌+◌}
use Rattle.lie_tables.specs.Tables.{Follows}
use Rattle.lie_solve.specs.Attempts.{IsPassed}
use Rattle.lie_solve.proofs.searching.find.Given as goal

abbrev pub invariant-loop-rule : goal.invariant-loop-rule
invariant-loop-rule l = record { same : l.system ≡ l.initial.system; indexed : Follows l.initial.tables l.tables l.system.system.equations; passed : IsPassed l.system.system (l.rule-index + 1) }
