-- Which report the bytes are.
use Rattle.std.specs.Prelude.{◌≡◌, ℕ, List}
use Rattle.lie_report.specs.Reports.{Report, report_of}
use Rattle.lie_report.specs.Report.{report_text}
use Rattle.lie_report.specs.declared.reports.Report as kept
use Rattle.lie_read_report.specs.WellFormed.{IsWellFormed}

-- no well formed report has this text
abbrev pub IsTextOfNone : List ℕ → Type 0
IsTextOfNone bytes = (R : Report) → IsWellFormed R → ¬ (report_text R ≡ bytes)

-- a value of the program is a well formed report with this text
pub record IsReportOf (report : kept.Report) (bytes : List ℕ) : Type 0 where
  pub well_formed : IsWellFormed (report_of report)
  pub text : report_text (report_of report) ≡ bytes

-- one text has one report
abbrev pub HaveOneReport : Type 0
HaveOneReport = (R Q : Report) → IsWellFormed R → IsWellFormed Q → report_text R ≡ report_text Q → R ≡ Q
