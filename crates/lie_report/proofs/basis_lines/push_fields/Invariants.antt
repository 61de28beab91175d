use Rattle.std.proofs.Common.{◌≡◌, ◌+◌, ◌++◌, drop}
use Rattle.lie_report.specs.SystemLines.{lines_text, numbered_lines}
use Rattle.lie_report.specs.BasisLines.{generator_line}
use Rattle.lie_report.proofs.basis_lines.push_fields.Given as goal

abbrev pub invariant-loop-i : goal.invariant-loop-i
invariant-loop-i l =
    l.text.items ++ lines_text (numbered_lines (generator_line (record { space = l.printer.space; names = l.printer.names.now })) (l.i + 1) (drop l.i l.fields))
    ≡ l.fn.text.items ++ lines_text (numbered_lines (generator_line (record { space = l.printer.space; names = l.printer.names.now })) 1 l.fields)
