use Rattle.std.specs.Prelude.{length, map, ◌++◌}
use Rattle.std.proofs.Common.{ap, ◌∙◌}
use Rattle.lie_report.specs.Reports.{entry_of}
use Rattle.lie_report.specs.SystemLines.{lines_text}
use Rattle.lie_report.specs.BasisLines.{generator_lines, commutator_lines}
use Rattle.lie_report.proofs.Lines.{two_parts}
use Rattle.lie_report.proofs.basis_lines.push_found.Goals as goal

pub returns : goal.returns
returns c =
    two_parts (generator_lines (record { space = c.args.printer.now.space; names = c.args.printer.now.names.now }) c.args.found.now.fields.items)
    (commutator_lines (length c.args.found.now.fields.items) (map entry_of c.args.found.now.table.entries.items)) c.args.text.now.items c.push_generators.new.text.items _
    (c.in_ok-push_generators.ensures
    ∙ ap (λ Vs. c.args.text.now.items ++ lines_text (generator_lines (record { space = c.args.printer.now.space; names = c.args.printer.now.names.now }) Vs)) c.as_slice-fields.ensures.value)
    (c.in_ok-push_commutators.ensures
    ∙ ap (λ Vs. c.push_generators.new.text.items ++ lines_text (commutator_lines (length Vs) (map entry_of c.as_slice-entries.result.now))) c.as_slice-fields.ensures.value
    ∙ ap (λ es. c.push_generators.new.text.items ++ lines_text (commutator_lines (length c.args.found.now.fields.items) (map entry_of es))) c.as_slice-entries.ensures.value)
