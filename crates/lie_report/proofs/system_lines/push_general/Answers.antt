use Rattle.std.proofs.Common.{ap, ◌∙◌, ◌++◌, map}
use Rattle.lie_lin.specs.Systems.{unknown_of}
use Rattle.lie_report.specs.SystemLines.{ended, component_line}
use Rattle.lie_report.proofs.Lines.{numbered-push, numbered-done}
use Rattle.lie_report.proofs.system_lines.push_general.Goals as goal

pub loop-i-preserved : goal.loop-i-preserved
loop-i-preserved c =
    numbered-push (component_line (record { space = c.args.printer.now.space; names = c.args.printer.now.names.now }) (map unknown_of c.args.unknowns.now))
    c.args.general.now c.loop-i.i c.loop-i.i c.index-general-i.result c.loop-i.text.items c.push_component.new.text.items _ c.loop-i-test.true
    (c.in_ok-push_component.ensures ∙ ap (λ E. c.loop-i.text.items ++ ended (component_line (record { space = c.args.printer.now.space; names = c.args.printer.now.names.now }) (map unknown_of c.args.unknowns.now) c.loop-i.i E)) c.index-general-i.is)
    c.loop-i.invariant

pub returns : goal.returns
returns c =
    numbered-done (component_line (record { space = c.args.printer.now.space; names = c.args.printer.now.names.now }) (map unknown_of c.args.unknowns.now))
    c.args.general.now c.loop-i.i c.loop-i.i c.loop-i.text.items _ c.loop-i-test.false c.loop-i.invariant
