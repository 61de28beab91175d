use Rattle.std.proofs.Common.{sym, subst, ap, ◌∙◌, ◌++◌, length}
use Rattle.std.specs.List.{flat_map}
use Rattle.lie_report.specs.Terms.{AreRising}
use Rattle.lie_report.specs.SystemLines.{ended, lines_text, numbered_lines, free_line, component_line, equation_line, remaining_line}
use Rattle.lie_report.proofs.Lines.{three_parts}
use Rattle.lie_report.proofs.system_lines.push_system.Goals as goal

pub push_general-requires : goal.push_general-requires
push_general-requires c = subst AreRising (sym c.unknowns-unknowns.ensures) c.space.ensures.valid.rising

pub push_equations-requires : goal.push_equations-requires
push_equations-requires c = subst AreRising (sym c.unknowns-unknowns.ensures) c.space.ensures.valid.rising

pub returns : goal.returns
returns c =
    three_parts (numbered_lines (free_line c.args.printer.now.names.now) 1 c.args.system.now.system.unknowns)
    (numbered_lines (component_line (record { space = c.args.printer.now.space; names = c.args.printer.now.names.now }) c.args.system.now.system.unknowns) 0 c.args.system.now.system.general)
    (remaining_line (length c.args.system.now.system.equations))
    (equation_line (record { space = c.args.printer.now.space; names = c.args.printer.now.names.now }) c.args.system.now.system.unknowns) c.args.system.now.system.equations
    c.args.text.now.items c.push_unknowns.new.text.items c.push_general.new.text.items c.push_remaining.new.text.items c.push_equations.new.text.items
    (c.in_ok-push_unknowns.ensures ∙ ap (λ us. c.args.text.now.items ++ lines_text (numbered_lines (free_line c.args.printer.now.names.now) 1 us)) c.unknowns-unknowns.ensures)
    (c.in_ok-push_general.ensures
    ∙ ap (λ us. c.push_unknowns.new.text.items ++ lines_text (numbered_lines (component_line (record { space = c.args.printer.now.space; names = c.args.printer.now.names.now }) us) 0 c.general-general.result.now)) c.unknowns-unknowns.ensures
    ∙ ap (λ Es. c.push_unknowns.new.text.items ++ lines_text (numbered_lines (component_line (record { space = c.args.printer.now.space; names = c.args.printer.now.names.now }) c.args.system.now.system.unknowns) 0 Es)) c.general-general.ensures)
    (c.in_ok-push_remaining.ensures ∙ ap (λ Es. c.push_general.new.text.items ++ ended (remaining_line (length Es))) c.equations-equations.ensures)
    (c.in_ok-push_equations.ensures
    ∙ ap (λ us. c.push_remaining.new.text.items ++ flat_map (λ E. ended (equation_line (record { space = c.args.printer.now.space; names = c.args.printer.now.names.now }) us E)) c.equations-equations.result.now) c.unknowns-unknowns.ensures
    ∙ ap (λ Es. c.push_remaining.new.text.items ++ flat_map (λ E. ended (equation_line (record { space = c.args.printer.now.space; names = c.args.printer.now.names.now }) c.args.system.now.system.unknowns E)) Es) c.equations-equations.ensures)
