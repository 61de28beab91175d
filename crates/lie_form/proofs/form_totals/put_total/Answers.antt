use Rattle.std.proofs.Common.{◌∙◌, ap}
use Rattle.std.proofs.lemmas.Result.{err_from_is_err_and}
use Rattle.lie_math.specs.LinearForm.{◌+ᶠ◌, form_term}
use Rattle.lie_jet.specs.Derivatives.{derivative_of}
use Rattle.lie_form.proofs.FormSteps.{total_cause, total_put_cause, derived_put_cause, total_sum}
use Rattle.lie_jet.proofs.TotalSteps.{on_ok, if_err}
use Rattle.lie_form.proofs.form_totals.put_total.Goals as goal

pub returns-in_err-derived-clause-past : goal.returns-in_err-derived-clause-past
returns-in_err-derived-clause-past c =
    let p = err_from_is_err_and c.from_residual.result c.from_residual.ensures.1 in
    rw (p.1, p.2) (total_cause c.args.space c.requires.small c.args.i c.requires.within (derivative_of c.args.term.now.0) c.args.term.now.1 _ c.args.sum.now c.in_err-derived.ensures.past)

pub returns-in_err-put-clause-past : goal.returns-in_err-put-clause-past
returns-in_err-put-clause-past c =
    let p = err_from_is_err_and c.from_residual-in_err-put.result c.from_residual-in_err-put.ensures.1 in
    rw (p.1, p.2) (total_put_cause c.args.space c.requires.small c.args.i c.requires.within (derivative_of c.args.term.now.0) c.args.term.now.1 _ c.args.sum.now c.in_ok-derived.derived c.in_ok-derived.ensures.total c.in_err-put.ensures.past)

pub returns-clause-sum : goal.returns-clause-sum
returns-clause-sum c =
    let d = derivative_of c.args.term.now.0 in
    on_ok c.put_derived.result (λ h. total_sum c.args.space c.requires.small c.args.i c.requires.within d c.args.term.now.1 c.args.sum.now c.put.new.self c.put_derived.new.sum (c.in_ok-put.ensures.sum ∙ ap (λ a. c.args.sum.now +ᶠ form_term d a) c.in_ok-derived.ensures.total) h) c.put_derived.ensures.sum

pub returns-clause-past : goal.returns-clause-past
returns-clause-past c =
    let d = derivative_of c.args.term.now.0 in
    if_err c.put_derived.result (λ fail h. derived_put_cause c.args.space c.requires.small c.args.i c.requires.within d c.args.term.now.1 fail c.args.sum.now c.put.new.self (c.in_ok-put.ensures.sum ∙ ap (λ a. c.args.sum.now +ᶠ form_term d a) c.in_ok-derived.ensures.total) h) c.put_derived.ensures.past
