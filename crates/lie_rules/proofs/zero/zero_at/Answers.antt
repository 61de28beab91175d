use Rattle.std.proofs.Common.{sym, ◌∙◌}
use Rattle.lie_math.specs.Counts.{trimmed}
use Rattle.lie_jet.specs.Derivatives.{derivative_of}
use Rattle.lie_rules.proofs.ZeroSteps.{zero_is, zero_apart, no_counts, some_counts}
use Rattle.lie_rules.proofs.zero.zero_at.Goals as goal

pub returns-then-order_of_derivative-ne0 : goal.returns-then-order_of_derivative-ne0
returns-then-order_of_derivative-ne0 c =
    zero_apart c.args.system.now.system c.args.place (derivative_of c.in_ok-der.der)
    (some_counts (trimmed c.in_ok-der.der.counts) (λ z. c.if-order_of_derivative-ne0.true (c.order_of_derivative.ensures ∙ z)))
    (sym c.equation_at.ensures.equation ∙ c.in_ok-der.ensures)

pub returns : goal.returns
returns c = record {
  place = c.requires;
  is = zero_is c.args.system.now.system c.args.place (derivative_of c.in_ok-der.der)
      (no_counts c.in_ok-der.der.counts (sym c.order_of_derivative.ensures ∙ c.if-order_of_derivative-ne0.false))
      (sym c.equation_at.ensures.equation ∙ c.in_ok-der.ensures);
}
