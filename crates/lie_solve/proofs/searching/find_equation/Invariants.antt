use Rattle.std.proofs.Common.{◌≡◌}
use Rattle.lie_change.specs.Tried.{at}
use Rattle.lie_tables.specs.Tables.{Follows}
use Rattle.lie_solve.specs.RuleNames.{rule_of}
use Rattle.lie_solve.proofs.Searches.{IsReached}
use Rattle.lie_solve.proofs.searching.find_equation.Given as goal

abbrev pub invariant-loop-first : goal.invariant-loop-first
invariant-loop-first l = record { same : l.system ≡ l.initial.system; indexed : Follows l.initial.tables l.tables l.system.system.equations; reached : IsReached l.system.system (rule_of l.rule) (at l.first) }
