use Rattle.std.proofs.Common.{ap, subst, sym, ◌∙◌, pos}
use Rattle.std.proofs.lemmas.Result.{err_from_is_err_and}
use Rattle.lie_math.specs.Limits.{absolute}
use Rattle.lie_math.specs.Monomial.{power_of}
use Rattle.lie_math.specs.Polynomial.{term, ◌*ᴾ◌}
use Rattle.lie_ring.specs.Causes.{IsCause}
use Rattle.lie_jet.proofs.TotalParts.{if_ok}
use Rattle.lie_jet.proofs.TotalSteps.{if_err}
use Rattle.lie_reduce.proofs.PowerSteps.{one_term, one_absolute, variable_cause}
use Rattle.lie_reduce.proofs.powers.times_variable.Goals as goal

pub returns-in_err-power-clause-past : goal.returns-in_err-power-clause-past
returns-in_err-power-clause-past c =
    let m = c.power-mono.ensures in
    let p = err_from_is_err_and c.from_residual.result c.from_residual.ensures.1 in
    rw (p.1, p.2) (variable_cause c.in_err-power.field-0.0 c.args.poly c.power-mono.result c.one.result (term (power_of c.args.number c.args.exponent) (pos 1)) c.requires c.one.ensures (ap (λ n. term n (pos 1)) (sym m)) c.in_err-power.ensures.past)

pub returns-clause-product : goal.returns-clause-product
returns-clause-product c =
    let m = c.power-mono.ensures in
    let t = c.in_ok-power.ensures.sum ∙ one_term c.power-mono.result (power_of c.args.number c.args.exponent) c.one.result (pos 1) m c.one.ensures in
    if_ok c.mul.result (λ made h. h ∙ ap (λ x. c.args.poly *ᴾ x) t) c.mul.ensures.product

pub returns-clause-past : goal.returns-clause-past
returns-clause-past c =
    let m = c.power-mono.ensures in
    let t = c.in_ok-power.ensures.sum ∙ one_term c.power-mono.result (power_of c.args.number c.args.exponent) c.one.result (pos 1) m c.one.ensures in
    if_err c.mul.result (λ fail h. subst (λ x. IsCause fail (absolute c.args.poly *ᴾ x)) (one_absolute (power_of c.args.number c.args.exponent) c.in_ok-power.power t ∙ t) h) c.mul.ensures.past
