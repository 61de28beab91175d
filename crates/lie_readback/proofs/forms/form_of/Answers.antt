use Rattle.std.proofs.Common.{arith, subst, sym, map}
use Rattle.std.specs.List.{AllByRecursion as Every}
use Rattle.std.proofs.lemmas.Result.{err_from_is_err_and}
use Rattle.lie_lin.specs.Forms.{coefficients_of, AreCoefficients}
use Rattle.lie_print.specs.PrintedTerms.{printed}
use Rattle.lie_readback.specs.Groups.{group_seen}
use Rattle.lie_readback.specs.WellFormed.{IsKeptCoefficient}
use Rattle.lie_readback.proofs.Grouping.{groups_err, coefficients_err, form_coefficients, no_form_here, form_is, too_many, kept_form}
use Rattle.lie_readback.proofs.forms.form_of.Goals as goal

pub returns-in_err-groups-clause-value : goal.returns-in_err-groups-clause-value
returns-in_err-groups-clause-value c =
    let p = err_from_is_err_and c.from_residual.result c.from_residual.ensures.1 in
    rw (p.1, p.2) (groups_err (map printed c.args.terms.items) c.in_err-groups.field-0.0 c.in_err-groups.ensures)

pub returns-in_err-coefficients-clause-value : goal.returns-in_err-coefficients-clause-value
returns-in_err-coefficients-clause-value c =
    let p = err_from_is_err_and c.from_residual-in_err-coefficients.result c.from_residual-in_err-coefficients.ensures.1 in
    rw (p.1, p.2) (coefficients_err (λ es. coefficients_of es.items) (map printed c.args.terms.items) c.as_slice.result.now c.in_ok-groups.groups.items c.in_err-coefficients.field-0.0 c.as_slice.ensures.value c.in_ok-groups.ensures
    c.in_err-coefficients.ensures)

pub returns-then-not-are_coefficients-clause-value : goal.returns-then-not-are_coefficients-clause-value
returns-then-not-are_coefficients-clause-value c = λ E r told.
    no_form_here c.in_ok-coefficients.coefficients.items E
    (form_coefficients (map printed c.args.terms.items) (map group_seen c.in_ok-groups.groups.items) c.in_ok-coefficients.coefficients.items c.in_ok-groups.ensures (rw c.as_slice.ensures.value at c.in_ok-coefficients.ensures) E r told)
    (rw c.as_slice-2.ensures.value at c.if-not-are_coefficients.ensures.decided)

pub returns-then-form_triple_count-gt-MAX_TERMS-clause-value : goal.returns-then-form_triple_count-gt-MAX_TERMS-clause-value
returns-then-form_triple_count-gt-MAX_TERMS-clause-value c = λ E r told.
    let count = c.form_triple_count.ensures.count in
    let many = c.if-form_triple_count-gt-MAX_TERMS.true in
    too_many E c.of_terms-form.result
    (form_is c.in_ok-coefficients.coefficients.items c.of_terms-form.result E c.of_terms-form.ensures
    (form_coefficients (map printed c.args.terms.items) (map group_seen c.in_ok-groups.groups.items) c.in_ok-coefficients.coefficients.items c.in_ok-groups.ensures (rw c.as_slice.ensures.value at c.in_ok-coefficients.ensures) E r told))
    (omega arith) r.few

pub returns-clause-value : goal.returns-clause-value
returns-clause-value c = λ E r told.
    form_is c.in_ok-coefficients.coefficients.items c.of_terms-form.result E c.of_terms-form.ensures
    (form_coefficients (map printed c.args.terms.items) (map group_seen c.in_ok-groups.groups.items) c.in_ok-coefficients.coefficients.items c.in_ok-groups.ensures (rw c.as_slice.ensures.value at c.in_ok-coefficients.ensures) E r told)

pub returns-clause-kept : goal.returns-clause-kept
returns-clause-kept c =
    let count = c.form_triple_count.ensures.count in
    let few = c.if-form_triple_count-gt-MAX_TERMS.false in
    record {
      few = omega arith;
      each = kept_form c.in_ok-coefficients.coefficients.items c.of_terms-form.result (rw c.as_slice-2.ensures.value at c.if-not-are_coefficients.ensures.decided)
          (subst (Every IsKeptCoefficient) c.as_slice-2.ensures.value (c.are_coefficients.ensures.kept c.if-not-are_coefficients.false)) c.of_terms-form.ensures;
    }
