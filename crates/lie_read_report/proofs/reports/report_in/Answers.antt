use Rattle.std.proofs.lemmas.Result.{err_from_is_err_and}
use Rattle.lie_report.specs.Reports.{report_of}
use Rattle.lie_read_report.specs.Views.{written_seen}
use Rattle.lie_read_report.proofs.Told.{well_written, text_fails, text_finds}
use Rattle.lie_read_report.proofs.reports.report_in.Goals as goal

pub report_of-requires : goal.report_of-requires
report_of-requires c = well_written c.args.text.now (written_seen c.in_ok-draft.draft) c.in_ok-draft.ensures

pub returns-in_err-draft-clause-value : goal.returns-in_err-draft-clause-value
returns-in_err-draft-clause-value c =
    let p = err_from_is_err_and c.from_residual.result c.from_residual.ensures.1 in
    rw (p.1, p.2) (text_fails report_of c.args.text.now c.in_err-draft.field-0.0 c.in_err-draft.ensures)

pub returns-clause-value : goal.returns-clause-value
returns-clause-value c = text_finds report_of c.args.text.now (written_seen c.in_ok-draft.draft) c.report_of.result c.in_ok-draft.ensures c.report_of.ensures.value
