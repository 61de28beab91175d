use Rattle.std.specs.Prelude.{codes, [], ◌∷◌, ◌++◌}
use Rattle.std.proofs.Common.{ap, ◌∙◌}
use Rattle.lie_report.specs.Reports.{determining}
use Rattle.lie_report.specs.Report.{report_body, report_text}
use Rattle.lie_report.specs.SystemLines.{lines_text}
use Rattle.lie_report.proofs.Lines.{two_parts}
use Rattle.lie_report.proofs.write.determining_report.Goals as goal

pub returns : goal.returns
unfolding report_text
returns c =
    two_parts (report_body (determining (record { space = c.args.system.now.space; names = c.args.names.now }) c.args.system.now.system)) (codes "end" ∷ []) []
    c.push_determining.new.text.items _
    (c.in_ok-push_determining.ensures
    ∙ ap (λ S. c.new-text.result.items ++ lines_text (report_body (determining (record { space = S; names = c.args.names.now }) c.args.system.now.system))) c.space.ensures.space
    ∙ ap (λ t. t ++ lines_text (report_body (determining (record { space = c.args.system.now.space; names = c.args.names.now }) c.args.system.now.system))) c.new-text.ensures.items)
    c.in_ok-push_text.ensures
