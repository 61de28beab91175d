use Rattle.std.specs.Prelude.{length}
use Rattle.lie_report.specs.SystemLines.{numbered_lines}
use Rattle.lie_report.specs.BasisLines.{generators_line, generator_line}
use Rattle.lie_report.proofs.Lines.{line_first}
use Rattle.lie_report.proofs.basis_lines.push_generators.Goals as goal

pub returns : goal.returns
returns c =
    line_first (generators_line (length c.args.fields.now)) (numbered_lines (generator_line (record { space = c.args.printer.now.space; names = c.args.printer.now.names.now })) 1 c.args.fields.now)
    c.args.text.now.items c.push_count.new.text.items _ c.in_ok-push_count.ensures c.in_ok-push_fields.ensures
