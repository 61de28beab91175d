use Rattle.std.proofs.Common.{map, subst, length, arith, ◌≡◌}
use Rattle.std.proofs.lemmas.Result.{err_from_is_err_and}
use Rattle.lie_report.specs.Reports.{found_of, entry_of}
use Rattle.lie_read_report.specs.Views.{basis_seen}
use Rattle.lie_read_report.specs.WellFormed.{IsReportedTable}
use Rattle.lie_read_report.proofs.Reported.{basis_err, basis_none, basis_found}
use Rattle.lie_read_report.proofs.reports.found_of.Goals as goal

pub returns-in_err-fields-clause-value : goal.returns-in_err-fields-clause-value
returns-in_err-fields-clause-value c =
    let p = err_from_is_err_and c.from_residual.result c.from_residual.ensures.1 in
    rw (p.1, p.2) (basis_err found_of c.args.size (basis_seen c.args.basis) c.in_err-fields.field-0.0 c.in_err-fields.ensures.value)

pub returns-then-not-is_table-clause-value : goal.returns-then-not-is_table-clause-value
returns-then-not-is_table-clause-value c =
    let l = c.len.ensures in
    let o = c.in_ok-fields.fields.ok in
    let same : c.len.result ≡ length c.in_ok-fields.fields.items = omega (arith, l, o) in
    basis_none found_of c.args.size (basis_seen c.args.basis) c.in_ok-fields.fields.items c.in_ok-fields.ensures.value
    (subst (λ n. ¬ (IsReportedTable n (map entry_of c.args.basis.table.items))) same (rw c.as_slice.ensures.value at c.if-not-is_table.ensures))

pub returns-clause-value : goal.returns-clause-value
returns-clause-value c = basis_found found_of c.args.size (basis_seen c.args.basis) c.in_ok-fields.fields.items c.in_ok-fields.ensures.value
