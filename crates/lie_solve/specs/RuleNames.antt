-- The rules and the places as the program names them.
use Rattle.lie_steps.specs.Rules as rules
use Rattle.lie_steps.specs.Rules.{Rule}
use Rattle.lie_solve.specs.declared.rules.Place.{Place}
use Rattle.lie_solve.specs.declared.rules.RuleName.{RuleName}
use Rattle.lie_solve.specs.declared.rules.RuleName.TheVariants.{Zero, Lowest, Absent, Split, Substitute, Integrate, Isolate, Reduce}
use Rattle.lie_solve.specs.declared.rules.RuleName.TheVariants.{Foreign, Cross}

abbrev pub rule_of : RuleName → Rule
rule_of Zero = rules.Zero
rule_of Lowest = rules.Lowest
rule_of Absent = rules.Absent
rule_of Split = rules.Split
rule_of Substitute = rules.Substitute
rule_of Integrate = rules.Integrate
rule_of Isolate = rules.Isolate
rule_of Reduce = rules.Reduce
rule_of Foreign = rules.Foreign
rule_of Cross = rules.Cross

abbrev pub place_of : Place → rules.Place
place_of p = record { first = p.first; second = p.second }
