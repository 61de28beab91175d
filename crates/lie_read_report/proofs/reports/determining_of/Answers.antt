use Rattle.std.proofs.lemmas.Result.{err_from_is_err_and}
use Rattle.lie_report.specs.Reports.{report_of}
use Rattle.lie_readback.specs.DraftViews.{draft_seen}
use Rattle.lie_readback.specs.Groups.{system_seen}
use Rattle.lie_read_report.proofs.Reported.{determining_err, determining_found}
use Rattle.lie_read_report.proofs.reports.determining_of.Goals as goal

pub returns-in_err-names-clause-value : goal.returns-in_err-names-clause-value
returns-in_err-names-clause-value c =
    let p = err_from_is_err_and c.from_residual.result c.from_residual.ensures.1 in
    rw (p.1, p.2) (determining_err report_of system_seen (draft_seen c.args.draft) c.in_err-names.field-0.0 c.in_err-names.ensures.value)

pub returns-clause-value : goal.returns-clause-value
returns-clause-value c = determining_found (draft_seen c.args.draft) (system_seen (c.in_ok-names.names, c.in_ok-names.system)) c.in_ok-names.ensures.value
