use Rattle.std.specs.Prelude.{codes, decimal, ◌++◌}
use Rattle.std.proofs.Common.{ap, ◌∙◌}
use Rattle.lie_report.specs.SystemLines.{ended, head_lines}
use Rattle.lie_report.specs.BasisLines.{generator_lines}
use Rattle.lie_report.proofs.Lines.{line_then}
use Rattle.lie_report.proofs.write.push_degree.Goals as goal

pub returns : goal.returns
returns c =
    line_then (head_lines (codes "lie degree 1") (record { space = c.args.printer.now.space; names = c.args.printer.now.names.now })) (codes "degree " ++ decimal c.args.most)
    (generator_lines (record { space = c.args.printer.now.space; names = c.args.printer.now.names.now }) c.args.fields.now)
    c.args.text.now.items _ _ _ c.in_ok-push_head.ensures
    (c.in_ok-push_count.ensures ∙ ap (λ n. c.push_head.new.text.items ++ ended (codes "degree " ++ decimal n)) c.from.ensures) c.in_ok-push_generators.ensures
