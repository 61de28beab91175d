use Rattle.std.proofs.Common.{ap, ◌∙◌}
use Rattle.std.proofs.lemmas.Result.{err_from_is_err_and}
use Rattle.lie_math.specs.Polynomial.{constant, ◌*ᴾ◌}
use Rattle.lie_jet.proofs.TotalParts.{if_ok}
use Rattle.lie_jet.proofs.TotalSteps.{if_err}
use Rattle.lie_reduce.proofs.ApplicationSteps.{slope_at_lead, slope_elsewhere, derive_cause, scale_cause}
use Rattle.lie_reduce.proofs.application.derivative_of_sides.Goals as goal

pub returns-then-number-lead-clause-slope : goal.returns-then-number-lead-clause-slope
returns-then-number-lead-clause-slope c = c.in_ok-constant_polynomial.ensures ∙ slope_at_lead c.args.number c.args.lead c.args.rule.now.c c.args.sign c.args.rule.now.right c.if-number-lead.true c.requires.free

pub returns-in_err-derivative-clause-past : goal.returns-in_err-derivative-clause-past
returns-in_err-derivative-clause-past c =
    let p = err_from_is_err_and c.from_residual-in_err-derivative.result c.from_residual-in_err-derivative.ensures.1 in
    rw (p.1, p.2) (derive_cause c.in_err-derivative.field-0.0 c.args.number c.args.lead c.args.rule.now.c c.args.rule.now.right c.if-number-lead.false c.in_err-derivative.ensures.past)

pub returns-clause-slope : goal.returns-clause-slope
returns-clause-slope c = if_ok c.scale.result (λ made h. h ∙ ap (λ p. constant c.args.sign *ᴾ p) c.in_ok-derivative.ensures.derivative ∙ slope_elsewhere c.args.number c.args.lead c.args.rule.now.c c.args.sign c.args.rule.now.right c.if-number-lead.false) c.scale.ensures.multiple

pub returns-clause-past : goal.returns-clause-past
returns-clause-past c = if_err c.scale.result (λ fail h. scale_cause fail c.args.number c.args.lead c.args.rule.now.c c.args.sign c.args.rule.now.right c.in_ok-derivative.derivative c.if-number-lead.false c.requires.unit c.in_ok-derivative.ensures.derivative h) c.scale.ensures.past
