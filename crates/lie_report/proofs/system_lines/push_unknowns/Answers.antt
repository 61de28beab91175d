use Rattle.std.proofs.Common.{sym, ap, ◌∙◌, ◌+◌, ◌++◌}
use Rattle.lie_lin.specs.Systems.{unknown_of}
use Rattle.lie_report.specs.SystemLines.{lines_text, free_line}
use Rattle.lie_report.proofs.Lines.{numbered-push, numbered-done, numbered-map}
use Rattle.lie_report.proofs.system_lines.push_unknowns.Goals as goal

pub loop-i-preserved : goal.loop-i-preserved
loop-i-preserved c =
    numbered-push (λ i f. free_line c.args.printer.now.names.now i (unknown_of f)) c.args.unknowns.now (c.loop-i.i + 1) c.loop-i.i _ c.loop-i.text.items c.push_unknown.new.text.items _ c.loop-i-test.true
    c.in_ok-push_unknown.ensures c.loop-i.invariant

pub returns : goal.returns
returns c =
    numbered-done (λ i f. free_line c.args.printer.now.names.now i (unknown_of f)) c.args.unknowns.now (c.loop-i.i + 1) c.loop-i.i c.loop-i.text.items _ c.loop-i-test.false c.loop-i.invariant
    ∙ ap (λ ls. c.args.text.now.items ++ lines_text ls) (sym (numbered-map (free_line c.args.printer.now.names.now) unknown_of 1 c.args.unknowns.now))
