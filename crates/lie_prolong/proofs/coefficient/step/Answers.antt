use Rattle.std.proofs.Common.{take}
use Rattle.std.proofs.lemmas.Result.{err_from_is_err_and}
use Rattle.lie_math.specs.VectorField.{component}
use Rattle.lie_jet.proofs.TotalSteps.{if_err}
use Rattle.lie_prolong.proofs.Multiples.{total_cause, multiples_cause, scale_cause, add_cause}
use Rattle.lie_prolong.proofs.coefficient.step.Goals as goal

pub returns-in_err-derivative-clause-past : goal.returns-in_err-derivative-clause-past
returns-in_err-derivative-clause-past c =
    let S = c.args.space in
    let p = err_from_is_err_and c.from_residual.result c.from_residual.ensures.1 in
    rw (p.1, p.2) (total_cause S c.requires.jet.space c.args.k c.requires.within c.args.jet.now.dep (take S.p c.args.jet.now.counts) (component c.args.field.now) _ c.args.before.now c.in_err-derivative.ensures.past)

pub returns-in_err-sum-clause-past : goal.returns-in_err-sum-clause-past
returns-in_err-sum-clause-past c =
    let S = c.args.space in
    let p = err_from_is_err_and c.from_residual-in_err-sum.result c.from_residual-in_err-sum.ensures.1 in
    rw (p.1, p.2) (multiples_cause S c.requires.jet.space c.args.k c.requires.within c.args.jet.now.dep (take S.p c.args.jet.now.counts) (component c.args.field.now) _ c.args.before.now c.in_err-sum.ensures.past)

pub returns-in_err-scale-clause-past : goal.returns-in_err-scale-clause-past
returns-in_err-scale-clause-past c =
    let S = c.args.space in
    let p = err_from_is_err_and c.from_residual-in_err-scale.result c.from_residual-in_err-scale.ensures.1 in
    rw (p.1, p.2) (scale_cause S c.requires.jet.space c.args.k c.requires.within c.args.jet.now.dep (take S.p c.args.jet.now.counts) (component c.args.field.now) _ c.args.before.now c.in_ok-sum.sum c.args.sign c.requires.unit c.in_ok-sum.ensures.sum c.in_err-scale.ensures.past)

pub returns-clause-past : goal.returns-clause-past
returns-clause-past c =
    let S = c.args.space in
    if_err c.add-2.result (λ fail h. add_cause S c.requires.jet.space c.args.k c.requires.within c.args.jet.now.dep (take S.p c.args.jet.now.counts) (component c.args.field.now) fail c.args.before.now c.in_ok-derivative.derivative c.in_ok-scale.field-0 c.in_ok-sum.sum c.args.sign c.requires.unit c.in_ok-derivative.ensures.total c.in_ok-sum.ensures.sum c.in_ok-scale.ensures.multiple h) c.add-2.ensures.past
