use Rattle.std.proofs.Common.{sym, ◌∙◌, map}
use Rattle.std.proofs.lemmas.Result.{err_from_is_err_and}
use Rattle.lie_print.specs.PrintedTerms.{printed}
use Rattle.lie_read_report.specs.FieldTerms.{terms_at}
use Rattle.lie_read_report.proofs.Reported.{part_err, part_none}
use Rattle.lie_read_report.proofs.fields.part_at.Goals as goal

pub returns-in_err-sum-clause-value : goal.returns-in_err-sum-clause-value
returns-in_err-sum-clause-value c =
    let p = err_from_is_err_and c.from_residual-in_err-sum.result c.from_residual-in_err-sum.ensures.1 in
    rw (p.1, p.2) (part_err c.args.size (terms_at c.args.place (map printed c.args.terms.now)) c.as_slice.result.now (c.as_slice.ensures.value ∙ c.in_ok-list.ensures) c.in_err-sum.field-0.0 c.in_err-sum.ensures)

pub returns-then-not-low-clause-value : goal.returns-then-not-low-clause-value
returns-then-not-low-clause-value c =
    part_none c.args.size (terms_at c.args.place (map printed c.args.terms.now)) c.as_slice.result.now (c.as_slice.ensures.value ∙ c.in_ok-list.ensures) c.in_ok-sum.sum c.in_ok-sum.ensures (rw c.if-not-low.true at c.in_ok-low.ensures)

pub returns-clause-value : goal.returns-clause-value
returns-clause-value c = λ P k is. c.in_ok-sum.ensures P k.within (is ∙ sym (c.as_slice.ensures.value ∙ c.in_ok-list.ensures))
