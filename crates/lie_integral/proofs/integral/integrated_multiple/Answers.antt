use Rattle.std.proofs.Common.{◌∙◌, ap, subst}
use Rattle.std.specs.Prelude.{ℤ}
use Rattle.lie_math.specs.Monomial.{exponent}
use Rattle.lie_ring.specs.Numbers.{IsExact}
use Rattle.lie_integral.proofs.IntegralNumbers.{not_none, term_divides, integrated_is, fraction_at, none_at}
use Rattle.lie_integral.proofs.integral.integrated_multiple.Goals as goal

pub unreachable-requires : goal.unreachable-requires
unreachable-requires c =
    not_none c.args.integration.now.number c.args.integration.now.var c.args.integration.now.times c.requires.apart c.args.denominator
    c.requires.positive c.args.term.now c.requires.clears c.fits.ensures
    (none_at c.args.integration.now.number c.args.term.now.1 c.args.integration.now.times c.exponent-exponent.result
    (exponent c.args.term.now.0 c.args.integration.now.var)
    (c.exponent-exponent.ensures ∙ ap (exponent c.args.term.now.0) c.from.ensures) c.in-None.ensures)

pub exact_quotient-requires-clause-divides : goal.exact_quotient-requires-clause-divides
exact_quotient-requires-clause-divides c =
    term_divides c.args.integration.now.number c.args.integration.now.var c.args.integration.now.times c.requires.apart c.args.denominator
    c.requires.positive c.args.term.now c.requires.clears c.in-Some.fraction
    (fraction_at c.args.integration.now.number c.args.term.now.1 c.args.integration.now.times c.exponent-exponent.result
    (exponent c.args.term.now.0 c.args.integration.now.var) c.in-Some.fraction
    (c.exponent-exponent.ensures ∙ ap (exponent c.args.term.now.0) c.from.ensures) c.in-Some.ensures)

pub returns : goal.returns
returns c =
    subst (IsExact (λ (w : ℤ). w) c.mul.result)
    (integrated_is c.args.integration.now.number c.args.integration.now.var c.args.integration.now.times c.requires.apart c.args.denominator
    c.requires.positive c.args.term.now c.requires.clears c.in-Some.fraction c.exact_quotient.result
    (fraction_at c.args.integration.now.number c.args.term.now.1 c.args.integration.now.times c.exponent-exponent.result
    (exponent c.args.term.now.0 c.args.integration.now.var) c.in-Some.fraction
    (c.exponent-exponent.ensures ∙ ap (exponent c.args.term.now.0) c.from.ensures) c.in-Some.ensures)
    c.exact_quotient.ensures)
    c.mul.ensures
