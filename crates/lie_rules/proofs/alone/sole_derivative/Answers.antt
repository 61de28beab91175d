use Rattle.std.proofs.Common.{ap, ◌∙◌}
use Rattle.lie_math.specs.Polynomial.{WholePolynomial}
use Rattle.lie_systems.specs.Normalised.{derivative_alone}
use Rattle.lie_jet.specs.Derivatives.{derivative_of}
use Rattle.lie_jet.specs.declared.derivative.Der.{Der}
use Rattle.lie_rules.proofs.AloneEquations.{several_derivatives, one_derivative}
use Rattle.lie_rules.proofs.alone.sole_derivative.Goals as goal

pub returns-then-terms-ne1 : goal.returns-then-terms-ne1
returns-then-terms-ne1 c = several_derivatives c.args.eq.now c.terms-terms.result.now c.terms-terms.ensures.list c.if-terms-ne1.true

pub returns : goal.returns
returns c =
    one_derivative c.args.eq.now c.terms-terms.result.now c.index-terms-0.result c.requires c.terms-terms.ensures.list c.if-terms-ne1.false
    c.index-terms-0.is
    ∙ ap (λ (e : Der × WholePolynomial). derivative_alone (derivative_of e.0)) c.index-terms-0.is
