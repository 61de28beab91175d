use Rattle.std.specs.Prelude.{codes, option_map, ◌++◌}
use Rattle.lie_report.specs.Reports.{found_of}
use Rattle.lie_report.specs.SystemLines.{head_lines, system_lines}
use Rattle.lie_report.specs.BasisLines.{basis_lines}
use Rattle.lie_report.proofs.Lines.{two_parts}
use Rattle.lie_report.proofs.write.push_symmetries.Goals as goal

pub returns : goal.returns
returns c =
    two_parts
    (head_lines (codes "lie symmetries 1, polynomial components only") (record { space = c.args.printer.now.space; names = c.args.printer.now.names.now })
    ++ system_lines (record { space = c.args.printer.now.space; names = c.args.printer.now.names.now }) c.args.system.now.system)
    (basis_lines (record { space = c.args.printer.now.space; names = c.args.printer.now.names.now }) (option_map found_of c.args.found.now))
    c.args.text.now.items _ _
    (two_parts (head_lines (codes "lie symmetries 1, polynomial components only") (record { space = c.args.printer.now.space; names = c.args.printer.now.names.now }))
    (system_lines (record { space = c.args.printer.now.space; names = c.args.printer.now.names.now }) c.args.system.now.system)
    c.args.text.now.items _ _ c.in_ok-push_head.ensures c.in_ok-push_system.ensures)
    c.in_ok-push_basis.ensures
