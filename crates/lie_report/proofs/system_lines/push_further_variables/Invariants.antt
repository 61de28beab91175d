use Rattle.std.proofs.Common.{◌≡◌, ◌++◌, ◌∷◌, map, take}
use Rattle.std.specs.List.{flat_map}
use Rattle.lie_print.specs.Printing.{name_at}
use Rattle.lie_report.proofs.system_lines.push_further_variables.Given as goal

abbrev pub invariant-loop-variable : goal.invariant-loop-variable
invariant-loop-variable l = l.text.items ≡ l.fn.text.items ++ flat_map (λ g. 44 ∷ g) (map (name_at l.printer.names.now) (take l.variable-index l.variables))
