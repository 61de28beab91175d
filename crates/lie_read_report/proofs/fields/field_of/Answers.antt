use Rattle.std.proofs.lemmas.Result.{err_from_is_err_and}
use Rattle.lie_read_report.proofs.Reported.{field_err, field_found}
use Rattle.lie_read_report.proofs.fields.field_of.Goals as goal

pub returns-in_err-parts-clause-value : goal.returns-in_err-parts-clause-value
returns-in_err-parts-clause-value c =
    let p = err_from_is_err_and c.from_residual.result c.from_residual.ensures.1 in
    rw (p.1, p.2) (field_err c.args.size c.as_slice.result.now c.args.terms.items c.as_slice.ensures.value c.in_err-parts.field-0.0 c.in_err-parts.ensures.value)

pub returns-clause-value : goal.returns-clause-value
returns-clause-value c = field_found c.args.size c.as_slice.result.now c.args.terms.items c.as_slice.ensures.value c.new.result c.in_ok-parts.parts.items c.new.ensures.den c.new.ensures.parts c.in_ok-parts.ensures.value
