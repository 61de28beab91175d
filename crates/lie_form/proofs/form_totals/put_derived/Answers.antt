use Rattle.lie_ring.specs.declared.failures.PolyFail.TheVariants.{NoMemory}
use Rattle.lie_math.specs.Limits.{absolute}
use Rattle.lie_form.specs.FormTotals.{derived_term}
use Rattle.std.proofs.Common.{◌∙◌, ◌<◌, ap, ap₂, sym, subst}
use Rattle.std.proofs.lemmas.Result.{err_from_is_err_and}
use Rattle.lie_math.specs.Canonical.{idr}
use Rattle.lie_math.specs.Counts.{Derivative, raised}
use Rattle.lie_math.specs.FiniteSumLaws as finite_laws
use Rattle.lie_math.specs.LinearForm.{forms, LinearForm, ◌+ᶠ◌, form_term, each_coefficient}
use Rattle.lie_math.specs.Polynomial.{WholePolynomial}
use Rattle.lie_geometry.specs.Coordinates.{Space}
use Rattle.lie_jet.specs.Derivatives.{derivative_of}
use Rattle.lie_jet.specs.Jets.{IsSmall}
use Rattle.lie_form.proofs.FormSteps.{starved_cause, count_low, raised_put_cause, dependent_cause, one_more_sum}
use Rattle.lie_form.proofs.form_totals.put_derived.Goals as goal
use Rattle.lie_form.proofs.form_totals.put_derived.Goals.{After-copy}

small : (c : After-copy) → IsSmall c.args.space
small c = c.space_is_small.ensures

pub raise_derivative-requires-clause-low : goal.raise_derivative-requires-clause-low
raise_derivative-requires-clause-low c = count_low c.args.der.now c.args.i c.requires.orders

pub put_by_dependent-requires-clause-small : goal.put_by_dependent-requires-clause-small
put_by_dependent-requires-clause-small c = small (goal.at.put_by_dependent-requires-clause-small c).After-copy

pub returns-in_err-same-clause-past : goal.returns-in_err-same-clause-past
returns-in_err-same-clause-past c =
    let p = err_from_is_err_and c.from_residual.result c.from_residual.ensures.1 in
    let known : Unit {0} = tt in
    rw (p.1, p.2) (starved_cause NoMemory (each_coefficient absolute c.args.sum.now +ᶠ derived_term c.args.space c.args.i (derivative_of c.args.der.now) (absolute c.args.poly.now)) known)

pub returns-in_err-put-clause-past : goal.returns-in_err-put-clause-past
returns-in_err-put-clause-past c =
    let k = (goal.at.returns-in_err-put-clause-past c).After-copy in
    let p = err_from_is_err_and c.from_residual-in_err-put.result c.from_residual-in_err-put.ensures.1 in
    rw (p.1, p.2) (raised_put_cause c.args.space (small k) c.args.i c.requires.within (derivative_of c.args.der.now) c.args.poly.now _ c.args.sum.now (derivative_of c.raise_derivative.result) c.in_ok-same.same c.raise_derivative.ensures c.in_ok-same.ensures c.in_err-put.ensures.past)

pub loop-b-init : goal.loop-b-init
loop-b-init c =
    c.in_ok-put.ensures.sum ∙ ap₂ (λ (d : Derivative) (a : WholePolynomial). c.args.sum.now +ᶠ form_term d a) c.raise_derivative.ensures c.in_ok-same.ensures
    ∙ ap (λ (E : LinearForm). c.args.sum.now +ᶠ E) (sym (idr (finite_laws.adder forms) (form_term (raised c.args.i (derivative_of c.args.der.now)) c.args.poly.now)))

pub returns-in_err-put_by_dependent-clause-past : goal.returns-in_err-put_by_dependent-clause-past
returns-in_err-put_by_dependent-clause-past c =
    let k = (goal.at.returns-in_err-put_by_dependent-clause-past c).After-copy in
    let p = err_from_is_err_and c.from_residual-in_err-put_by_dependent.result c.from_residual-in_err-put_by_dependent.ensures.1 in
    rw (p.1, p.2) (dependent_cause c.args.space (small k) c.args.i c.requires.within (derivative_of c.args.der.now) c.args.poly.now _ c.args.sum.now c.loop-b.sum c.loop-b.b (subst (λ (s : Space). c.loop-b.b < s.q) c.space.view_is c.loop-b-test.true) c.loop-b.invariant c.in_err-put_by_dependent.ensures.past)

pub loop-b-preserved : goal.loop-b-preserved
loop-b-preserved c =
    let k = (goal.at.loop-b-preserved c).After-copy in
    one_more_sum c.args.space (small k) c.args.i c.requires.within (derivative_of c.args.der.now) c.args.poly.now c.args.sum.now c.loop-b.sum c.put_by_dependent.new.sum c.loop-b.b c.loop-b.invariant c.in_ok-put_by_dependent.ensures.sum
