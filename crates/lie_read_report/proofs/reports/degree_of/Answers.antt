use Rattle.std.proofs.Common.{map, ap, ◌∙◌, ℕ, List}
use Rattle.std.proofs.lemmas.Result.{err_from_is_err_and}
use Rattle.lie_report.specs.Reports.{report_of, degree}
use Rattle.lie_readback.specs.DraftViews.{terms_seen, named_seen}
use Rattle.lie_read_report.proofs.Reported.{degree_err, degree_found}
use Rattle.lie_read_report.proofs.reports.degree_of.Goals as goal

pub returns-in_err-fields-clause-value : goal.returns-in_err-fields-clause-value
returns-in_err-fields-clause-value c =
    let p = err_from_is_err_and c.from_residual.result c.from_residual.ensures.1 in
    rw (p.1, p.2) (degree_err (named_seen c.args.names) c.args.most (map terms_seen c.args.fields.items) report_of c.size_of.result c.size_of.ensures c.in_err-fields.field-0.0 c.in_err-fields.ensures.value)

pub returns-clause-value : goal.returns-clause-value
returns-clause-value c = λ R w is.
    ap (λ (l : List ℕ). degree (record { space = c.args.names.space; names = l }) c.args.most c.in_ok-fields.fields.items) c.in_ok-names.ensures
    ∙ degree_found (named_seen c.args.names) c.args.most (map terms_seen c.args.fields.items) c.size_of.result c.in_ok-fields.fields.items c.size_of.ensures c.in_ok-fields.ensures.value R w is
