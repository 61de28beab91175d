use Rattle.std.proofs.Common.{◌∙◌, ap}
use Rattle.lie_math.specs.Monomial.{exponent}
use Rattle.lie_jet.specs.Derivatives.{derivative_of}
use Rattle.lie_integral.proofs.ExactAnswers.{option_weaker}
use Rattle.lie_integral.proofs.IntegralNumbers.{wide_triple, wide_multiple, denominator_more, fraction_at, none_at}
use Rattle.lie_integral.proofs.integral.denominator_with.Goals as goal

pub returns-in_err-fraction : goal.returns-in_err-fraction
returns-in_err-fraction c ts h =
    let t = c.args.triple.now in
    rw c.from_residual.ensures (wide_triple c.args.integration.now.number c.args.integration.now.var c.args.integration.now.times
    c.requires.apart ts c.args.denominator h (derivative_of t.0, t.1, t.2)
    (none_at c.args.integration.now.number t.2 c.args.integration.now.times c.exponent-exponent.result
    (exponent t.1 c.args.integration.now.var)
    (c.exponent-exponent.ensures ∙ ap (exponent t.1) c.from.ensures) c.in_err-fraction.ensures))

pub returns : goal.returns
returns c ts h =
    let t = c.args.triple.now in
    let f = fraction_at c.args.integration.now.number t.2 c.args.integration.now.times c.exponent-exponent.result
    (exponent t.1 c.args.integration.now.var) c.in_ok-fraction.fraction
    (c.exponent-exponent.ensures ∙ ap (exponent t.1) c.from.ensures) c.in_ok-fraction.ensures in
    option_weaker c.common_multiple.result
    (wide_multiple c.args.integration.now.number c.args.integration.now.var c.args.integration.now.times c.requires.apart ts
    c.args.denominator h (derivative_of t.0, t.1, t.2) c.in_ok-fraction.fraction f)
    (λ m p. denominator_more c.args.integration.now.number c.args.integration.now.var c.args.integration.now.times c.requires.apart ts
    c.args.denominator h (derivative_of t.0, t.1, t.2) c.in_ok-fraction.fraction f m p.0 p.1)
    c.common_multiple.ensures
