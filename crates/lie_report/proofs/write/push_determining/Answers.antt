use Rattle.std.specs.Prelude.{codes}
use Rattle.lie_report.specs.SystemLines.{head_lines, system_lines}
use Rattle.lie_report.proofs.Lines.{two_parts}
use Rattle.lie_report.proofs.write.push_determining.Goals as goal

pub returns : goal.returns
returns c =
    two_parts (head_lines (codes "lie determining 1") (record { space = c.args.printer.now.space; names = c.args.printer.now.names.now }))
    (system_lines (record { space = c.args.printer.now.space; names = c.args.printer.now.names.now }) c.args.system.now.system)
    c.args.text.now.items _ _ c.in_ok-push_head.ensures c.in_ok-push_system.ensures
