use Rattle.std.proofs.Common.{◌≡◌, ◌++◌, map, drop}
use Rattle.lie_print.specs.PrintedTerms.{printed}
use Rattle.lie_report.specs.Terms.{field_terms}
use Rattle.lie_report.proofs.terms.field_terms.Given as goal

abbrev pub invariant-loop-variable : goal.invariant-loop-variable
invariant-loop-variable l = map printed l.terms.items ++ field_terms l.variable (drop l.variable l.components) ≡ field_terms 0 l.components
