use Rattle.std.proofs.Common.{◌≡◌, ◌++◌, take, map}
use Rattle.std.specs.List.{flat_map}
use Rattle.lie_lin.specs.Systems.{unknown_of}
use Rattle.lie_report.specs.SystemLines.{ended, equation_line}
use Rattle.lie_report.proofs.system_lines.push_equations.Given as goal

abbrev pub invariant-loop-equation : goal.invariant-loop-equation
invariant-loop-equation l =
    l.text.items ≡ l.fn.text.items ++ flat_map (λ E. ended (equation_line (record { space = l.printer.space; names = l.printer.names.now }) (map unknown_of l.unknowns) E)) (take l.equation-index l.equations)
