use Rattle.std.proofs.Common.{sym, ap, subst, ◌∙◌}
use Rattle.std.proofs.lemmas.Result.{err_from_is_err_and}
use Rattle.lie_math.specs.Limits.{IsWithinLimits}
use Rattle.lie_math.specs.Polynomial.{WholePolynomial}
use Rattle.lie_ring.specs.Causes.{IsCause}
use Rattle.lie_jet.proofs.TotalParts.{entries_same}
use Rattle.lie_degree.proofs.SaidSums.{form_says, form_bulk}
use Rattle.lie_degree.proofs.equations.said_of.Goals as goal

pub returns-in_err-bulk-clause-past : goal.returns-in_err-bulk-clause-past
returns-in_err-bulk-clause-past c =
    let p = err_from_is_err_and c.from_residual.result c.from_residual.ensures.1 in
    rw (p.1, p.2) (subst (IsCause c.in_err-bulk.field-0.0) c.requires.bulks c.in_err-bulk.ensures.past)

pub returns-in_err-said-clause-past : goal.returns-in_err-said-clause-past
returns-in_err-said-clause-past c =
    let p = err_from_is_err_and c.from_residual-in_err-said.result c.from_residual-in_err-said.ensures.1 in
    rw (p.1, p.2) (subst (IsCause c.in_err-said.field-0.0)
    (form_bulk c.args.form.now c.terms.result.now c.terms.ensures.list c.args.column.now) c.in_err-said.ensures.past)

pub returns-clause-value : goal.returns-clause-value
returns-clause-value c =
    sym (entries_same c.in_ok-terms.field-0.items) ∙ c.in_ok-terms.ensures
    ∙ ap (λ (p : WholePolynomial). p.list)
    (c.in_ok-said.ensures.value ∙ form_says c.args.form.now c.terms.result.now c.terms.ensures.list c.args.column.now)

pub returns-clause-fits : goal.returns-clause-fits
returns-clause-fits c = subst IsWithinLimits (c.in_ok-bulk.ensures.value ∙ c.requires.sizes) c.is_within_limits.ensures
