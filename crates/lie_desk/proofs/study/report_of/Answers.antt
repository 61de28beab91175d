-- A report is ASCII, since the names of a file are.
use Rattle.std.specs.Prelude.{◌<◌, All}
use Rattle.std.proofs.Common.{sym, subst}
use Rattle.lie_desk.proofs.ReportBytes.{report_is_ascii}
use Rattle.lie_desk.proofs.study.report_of.Goals as goal

pub unreachable-requires : goal.unreachable-requires
unreachable-requires c =
    let file = c.requires.file in
    let ascii = report_is_ascii file.0 c.args.budget c.in-Ok.bytes.items (c.in-Ok.ensures.text file.0 file.1) in
    (rw c.in-None.is at c.in_ok-report.ensures) (subst (All (λ b. b < 128)) (sym c.deref.ensures.value) ascii)
