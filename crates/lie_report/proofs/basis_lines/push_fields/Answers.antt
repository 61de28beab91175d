use Rattle.std.proofs.Common.{ap, ◌∙◌, ◌+◌, ◌++◌}
use Rattle.lie_report.specs.SystemLines.{ended}
use Rattle.lie_report.specs.BasisLines.{generator_line}
use Rattle.lie_report.proofs.Lines.{numbered-push, numbered-done}
use Rattle.lie_report.proofs.basis_lines.push_fields.Goals as goal

pub loop-i-preserved : goal.loop-i-preserved
loop-i-preserved c =
    numbered-push (generator_line (record { space = c.args.printer.now.space; names = c.args.printer.now.names.now }))
    c.args.fields.now (c.loop-i.i + 1) c.loop-i.i c.index-fields-i.result c.loop-i.text.items c.push_field.new.text.items _ c.loop-i-test.true
    (c.in_ok-push_field.ensures ∙ ap (λ V. c.loop-i.text.items ++ ended (generator_line (record { space = c.args.printer.now.space; names = c.args.printer.now.names.now }) (c.loop-i.i + 1) V)) c.index-fields-i.is)
    c.loop-i.invariant

pub returns : goal.returns
returns c =
    numbered-done (generator_line (record { space = c.args.printer.now.space; names = c.args.printer.now.names.now }))
    c.args.fields.now (c.loop-i.i + 1) c.loop-i.i c.loop-i.text.items _ c.loop-i-test.false c.loop-i.invariant
