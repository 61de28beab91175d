use Rattle.std.proofs.Common.{◌≡◌, ◌∙◌, ap, subst, sym, []}
use Rattle.lie_math.specs.Counts.{order}
use Rattle.lie_jet.proofs.TotalParts.{if_ok}
use Rattle.lie_jet.specs.Derivatives.{derivative_of}
use Rattle.lie_jet.specs.declared.derivative.Der.{Der}
use Rattle.lie_integral.proofs.ExactAnswers.{option_weaker}
use Rattle.lie_rules.proofs.ZeroSteps.{no_counts}
use Rattle.lie_rules.proofs.substitute.solved_for_unknown.Goals as goal

pub returns-then-order_of_derivative-ne0 : goal.returns-then-order_of_derivative-ne0
returns-then-order_of_derivative-ne0 c = λ h. c.if-order_of_derivative-ne0.true (c.order_of_derivative.ensures ∙ ap order h.itself)

pub returns : goal.returns
returns c =
    if_ok c.solved_for.result
    (λ found h. option_weaker found (λ n k. n k.number k.solved)
    (λ s p. (
      p.0,
      record {
        itself =
            subst (λ (x : Der). (derivative_of x).counts ≡ []) (sym p.0)
            (no_counts c.args.term.now.0.counts (sym c.order_of_derivative.ensures ∙ c.if-order_of_derivative-ne0.false));
        number =
            s.number;
        solved = p.1.solved;
      },
      p.1,
    )) h)
    c.solved_for.ensures
