use Rattle.std.proofs.lemmas.Result.{err_from_is_err_and}
use Rattle.std.specs.Prelude.{option_map}
use Rattle.lie_report.specs.Reports.{found_of}
use Rattle.lie_read_report.specs.Views.{basis_seen}
use Rattle.lie_read_report.proofs.Reported.{some_err, some_found}
use Rattle.lie_read_report.proofs.reports.found_some.Goals as goal

pub returns-in_err-found-clause-value : goal.returns-in_err-found-clause-value
returns-in_err-found-clause-value c =
    let p = err_from_is_err_and c.from_residual.result c.from_residual.ensures.1 in
    rw (p.1, p.2) (some_err found_of (option_map found_of) c.args.size (basis_seen c.args.basis) c.in_err-found.field-0.0 c.in_err-found.ensures.value)

pub returns-clause-value : goal.returns-clause-value
returns-clause-value c = some_found c.args.size (basis_seen c.args.basis) (found_of c.in_ok-found.found) c.in_ok-found.ensures.value
