use Rattle.std.specs.Prelude.{◌≡◌, MatchOption}
use Rattle.std.specs.declared.option.Option.{Option}
use Rattle.lie_report.specs.Reports.{report_of}
use Rattle.lie_report.specs.Report.{report_text}
use Rattle.lie_report.specs.declared.reports.Report as kept
use Rattle.lie_readback.proofs.Found.{ok_more}
use Rattle.lie_read_report.specs.ReadReports.{IsTextOfNone, IsReportOf}
use Rattle.lie_read_report.proofs.Told.{answer_more}
use Rattle.lie_read_report.proofs.reports.read_report.Goals as goal

pub returns-in-Ok : goal.returns-in-Ok
returns-in-Ok c =
    let bytes = c.args.bytes.now in
    let R = report_of c.in-Ok.report in
    ok_more {X = Option kept.Report} (λ made. MatchOption made (¬ (report_text R ≡ bytes)) (λ r. (report_of r ≡ R) × (report_text (report_of r) ≡ bytes)))
    (λ made. MatchOption made (IsTextOfNone bytes) (λ r. IsReportOf r bytes)) c.with_text.result (answer_more bytes R c.in-Ok.ensures.kept c.in-Ok.ensures.value) c.with_text.ensures
