use Rattle.std.proofs.Common.{◌≡◌, ◌++◌, drop, map}
use Rattle.lie_lin.specs.Systems.{unknown_of}
use Rattle.lie_report.specs.SystemLines.{lines_text, numbered_lines, component_line}
use Rattle.lie_report.proofs.system_lines.push_general.Given as goal

abbrev pub invariant-loop-i : goal.invariant-loop-i
invariant-loop-i l =
    l.text.items ++ lines_text (numbered_lines (component_line (record { space = l.printer.space; names = l.printer.names.now }) (map unknown_of l.unknowns)) l.i (drop l.i l.general))
    ≡ l.fn.text.items ++ lines_text (numbered_lines (component_line (record { space = l.printer.space; names = l.printer.names.now }) (map unknown_of l.unknowns)) 0 l.general)
