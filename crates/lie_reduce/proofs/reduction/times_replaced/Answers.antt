use Rattle.std.proofs.Common.{ap, subst, ◌∙◌}
use Rattle.lie_math.specs.Limits.{absolute}
use Rattle.lie_math.specs.Polynomial.{◌*ᴾ◌}
use Rattle.lie_ring.specs.Causes.{IsCause}
use Rattle.lie_jet.proofs.TotalParts.{if_ok}
use Rattle.lie_jet.proofs.TotalSteps.{if_err}
use Rattle.lie_solved.specs.SolvedForms.{solved_equations}
use Rattle.lie_reduce.proofs.Replacing.{other_power, other_bulk}
use Rattle.lie_reduce.proofs.reduction.times_replaced.Goals as goal

pub returns-in-None-clause-product : goal.returns-in-None-clause-product
returns-in-None-clause-product c = if_ok c.times_variable.result (λ made h. h ∙ ap (λ x. c.args.poly *ᴾ x) (other_power (solved_equations c.args.space c.args.rules.now) c.args.pair.0 c.args.pair.1 c.in-None.ensures)) c.times_variable.ensures.product

pub returns-in-None-clause-past : goal.returns-in-None-clause-past
returns-in-None-clause-past c = if_err c.times_variable.result (λ fail h. subst (λ x. IsCause fail (absolute c.args.poly *ᴾ x)) (other_bulk (solved_equations c.args.space c.args.rules.now) c.args.pair.0 c.args.pair.1 c.in-None.ensures) h) c.times_variable.ensures.past
