use Rattle.std.proofs.Common.{◌∙◌, ap₂, subst}
use Rattle.std.specs.Prelude.{unsigned_abs}
use Rattle.std.proofs.lemmas.Result.{err_from_is_err_and}
use Rattle.lie_math.specs.Monomial.{Monomial, ◌·◌, power_of}
use Rattle.lie_ring.specs.Causes.{IsProductCause}
use Rattle.lie_integral.specs.Integrals.{integrated_term}
use Rattle.lie_integral.proofs.IntegralForms.{wide_term, product_cause}
use Rattle.lie_integral.proofs.IntegralNumbers.{integrated_apart}
use Rattle.lie_integral.proofs.integral.push_integrated.Goals as goal

pub returns-in-None-clause-past : goal.returns-in-None-clause-past
returns-in-None-clause-past c =
    wide_term (integrated_term c.args.integration.now.number c.args.integration.now.var c.args.integration.now.times
    (unsigned_abs c.args.denominator) c.args.term.now) c.in-None.ensures

pub returns-in_err-mono-clause-past : goal.returns-in_err-mono-clause-past
returns-in_err-mono-clause-past c =
    let p = err_from_is_err_and c.from_residual.result c.from_residual.ensures.1 in
    rw (p.1, p.2) (product_cause c.in_err-mono.field-0.0
    (integrated_term c.args.integration.now.number c.args.integration.now.var c.args.integration.now.times
    (unsigned_abs c.args.denominator) c.args.term.now)
    (integrated_apart c.args.integration.now.number c.args.integration.now.var c.args.integration.now.times c.requires.apart
    c.args.denominator c.requires.positive c.args.term.now c.requires.clears c.requires.counts)
    (subst (λ (m : Monomial). IsProductCause c.in_err-mono.field-0.0 (m · c.args.term.now.0))
    (c.power-power.ensures ∙ ap₂ power_of c.from.ensures c.from-2.ensures) c.in_err-mono.ensures.high))
