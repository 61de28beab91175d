use Rattle.std.proofs.Common.{◌≡◌, ◌+◌, ◌++◌, drop}
use Rattle.lie_lin.specs.Systems.{unknown_of}
use Rattle.lie_report.specs.SystemLines.{lines_text, numbered_lines, free_line}
use Rattle.lie_report.proofs.system_lines.push_unknowns.Given as goal

abbrev pub invariant-loop-i : goal.invariant-loop-i
invariant-loop-i l =
    l.text.items ++ lines_text (numbered_lines (λ i f. free_line l.printer.names.now i (unknown_of f)) (l.i + 1) (drop l.i l.unknowns))
    ≡ l.fn.text.items ++ lines_text (numbered_lines (λ i f. free_line l.printer.names.now i (unknown_of f)) 1 l.unknowns)
