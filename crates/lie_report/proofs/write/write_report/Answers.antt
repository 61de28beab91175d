use Rattle.std.specs.Prelude.{codes, [], ◌∷◌, ◌++◌}
use Rattle.std.proofs.Common.{ap, ◌∙◌}
use Rattle.lie_report.specs.Reports.{report_of}
use Rattle.lie_report.specs.Report.{report_body, report_text}
use Rattle.lie_report.specs.SystemLines.{lines_text}
use Rattle.lie_report.proofs.Lines.{two_parts}
use Rattle.lie_report.proofs.write.write_report.Goals as goal

pub returns : goal.returns
unfolding report_text
returns c = two_parts (report_body (report_of c.args.report.now)) (codes "end" ∷ []) [] c.push_body.new.text.items _
    (c.in_ok-push_body.ensures ∙ ap (λ t. t ++ lines_text (report_body (report_of c.args.report.now))) c.new-text.ensures.items) c.in_ok-push_text.ensures
