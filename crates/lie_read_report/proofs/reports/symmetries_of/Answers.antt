use Rattle.std.proofs.lemmas.Result.{err_from_is_err_and}
use Rattle.std.specs.Prelude.{option_map}
use Rattle.lie_report.specs.Reports.{report_of, found_of}
use Rattle.lie_readback.specs.DraftViews.{draft_seen}
use Rattle.lie_readback.specs.Groups.{system_seen}
use Rattle.lie_read_report.specs.Views.{basis_seen}
use Rattle.lie_read_report.proofs.Reported.{symmetries_err, found_err, symmetries_found}
use Rattle.lie_read_report.proofs.reports.symmetries_of.Goals as goal

pub returns-in_err-names-clause-value : goal.returns-in_err-names-clause-value
returns-in_err-names-clause-value c =
    let p = err_from_is_err_and c.from_residual.result c.from_residual.ensures.1 in
    rw (p.1, p.2) (symmetries_err report_of system_seen (draft_seen c.args.draft) (option_map basis_seen c.args.basis) c.in_err-names.field-0.0 c.in_err-names.ensures.value)

pub returns-in_err-found-clause-value : goal.returns-in_err-found-clause-value
returns-in_err-found-clause-value c =
    let p = err_from_is_err_and c.from_residual-in_err-found.result c.from_residual-in_err-found.ensures.1 in
    rw (p.1, p.2) (found_err (draft_seen c.args.draft) (system_seen (c.in_ok-names.names, c.in_ok-names.system)) c.in_ok-names.ensures.value report_of (option_map found_of) (option_map basis_seen c.args.basis)
    c.size_of.result (rw c.space.ensures.space at c.size_of.ensures) c.in_err-found.field-0.0 c.in_err-found.ensures.value)

pub returns-clause-value : goal.returns-clause-value
returns-clause-value c =
    symmetries_found (draft_seen c.args.draft) (system_seen (c.in_ok-names.names, c.in_ok-names.system)) c.in_ok-names.ensures.value (option_map basis_seen c.args.basis)
    c.size_of.result (option_map found_of c.in_ok-found.found) (rw c.space.ensures.space at c.size_of.ensures) c.in_ok-found.ensures.value
