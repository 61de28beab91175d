use Rattle.std.proofs.Common.{sym, ◌∙◌}
use Rattle.lie_jet.specs.Derivatives.{derivative_of}
use Rattle.lie_rules.proofs.AbsentSteps.{absent_underived, absent_unlisted}
use Rattle.lie_rules.proofs.absent.absent_at.Goals as goal

pub returns-then-order_of_derivative-eq0 : goal.returns-then-order_of_derivative-eq0
returns-then-order_of_derivative-eq0 c =
    absent_underived c.args.system.now.system c.args.place (derivative_of c.in_ok-der.der)
    (sym c.equation_at.ensures.equation ∙ c.in_ok-der.ensures) (sym c.order_of_derivative.ensures ∙ c.if-order_of_derivative-eq0.true)

pub returns-in_err-unknown : goal.returns-in_err-unknown
returns-in_err-unknown c =
    rw c.from_residual-in_err-unknown.ensures
    (absent_unlisted c.args.system.now.system c.args.place (derivative_of c.in_ok-der.der) c.unknowns.result.now c.unknowns.ensures
    (sym c.equation_at.ensures.equation ∙ c.in_ok-der.ensures) c.in_err-unknown.ensures)
