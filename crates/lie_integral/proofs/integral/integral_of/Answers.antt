use Rattle.std.proofs.Common.{◌∙◌, ap, []}
use Rattle.std.specs.Prelude.{unsigned_abs}
use Rattle.std.proofs.lemmas.Result.{err_from_is_err_and}
use Rattle.lie_lin.specs.Forms.{coefficients_of}
use Rattle.lie_ring.proofs.Fronts.{all_taken}
use Rattle.lie_integral.proofs.IntegralForms.{integrated_entries, cleared_at, integral_cause, integral_step, integral_kept, integral_made}
use Rattle.lie_integral.proofs.integral.integral_of.Goals as goal

pub integrated_polynomial-requires-clause-clears : goal.integrated_polynomial-requires-clause-clears
integrated_polynomial-requires-clause-clears c =
    cleared_at c.args.integration.now.number c.requires.apart c.args.integration.now.var c.args.integration.now.times c.args.denominator
    c.requires.positive c.args.form.now c.requires.clears c.terms-term-items.result.now c.terms-term-items.ensures.list
    c.loop-term.term-index c.term-item.result c.loop-term-test.true c.term-item.is

pub loop-term-preserved : goal.loop-term-preserved
loop-term-preserved c =
    integral_step c.args.integration.now.number c.requires.apart c.args.integration.now.var c.args.integration.now.times c.args.denominator
    c.requires.positive c.args.form.now c.requires.clears c.terms-term-items.result.now c.terms-term-items.ensures.list
    c.loop-term.terms.items c.push.new.self.items c.loop-term.term-index c.term-item.result c.in_ok-coefficient.coefficient
    c.loop-term-test.true c.term-item.is c.in_ok-push.ensures.items c.in_ok-coefficient.ensures.integral c.loop-term.invariant

pub returns-in_err-coefficient-clause-past : goal.returns-in_err-coefficient-clause-past
returns-in_err-coefficient-clause-past c =
    let p = err_from_is_err_and c.from_residual.result c.from_residual.ensures.1 in
    rw (p.1, p.2) (integral_cause c.args.integration.now.number c.requires.apart c.args.integration.now.var c.args.integration.now.times
    c.args.denominator c.requires.positive c.args.form.now c.requires.clears c.terms-term-items.result.now
    c.terms-term-items.ensures.list
    _ c.loop-term.term-index c.term-item.result c.loop-term-test.true c.term-item.is c.in_err-coefficient.ensures.past)

pub of_terms-requires : goal.of_terms-requires
of_terms-requires c =
    integral_kept c.args.integration.now.number c.requires.apart c.args.integration.now.var c.args.integration.now.times c.args.denominator
    c.requires.positive c.args.form.now c.requires.clears c.terms-term-items.result.now c.terms-term-items.ensures.list
    c.loop-term.terms.items (c.loop-term.invariant
    ∙ ap (λ ts. integrated_entries c.args.integration.now.number c.args.integration.now.var c.args.integration.now.times
    (unsigned_abs c.args.denominator) (coefficients_of ts))
    (all_taken c.terms-term-items.result.now c.loop-term.term-index c.loop-term-test.false))

pub returns-clause-integral : goal.returns-clause-integral
returns-clause-integral c =
    integral_made c.args.integration.now.number c.requires.apart c.args.integration.now.var c.args.integration.now.times c.args.denominator
    c.requires.positive c.args.form.now c.requires.clears c.terms-term-items.result.now c.terms-term-items.ensures.list
    c.of_terms.result c.loop-term.terms.items c.of_terms.ensures
    (c.loop-term.invariant ∙ ap (λ ts. integrated_entries c.args.integration.now.number c.args.integration.now.var
    c.args.integration.now.times (unsigned_abs c.args.denominator) (coefficients_of ts))
    (all_taken c.terms-term-items.result.now c.loop-term.term-index c.loop-term-test.false))

pub returns-in_err-push-clause-past : goal.returns-in_err-push-clause-past
returns-in_err-push-clause-past c =
    let p = err_from_is_err_and c.from_residual-in_err-push.result c.from_residual-in_err-push.ensures.1 in
    rw (p.1, p.2) (record { unknown = 0; counts = [] }, tt)
