use Rattle.std.proofs.Common.{map, subst}
use Rattle.std.specs.List.{Contains}
use Rattle.std.proofs.lemmas.Result.{err_from_is_err_and}
use Rattle.lie_math.specs.LinearForm.{LinearForm}
use Rattle.lie_systems.specs.Bulk.{IsFormWithinLimits}
use Rattle.lie_systems.specs.Works.{AForm}
use Rattle.lie_jet.specs.Derivatives.{derivative_of}
use Rattle.lie_form.specs.FormLimits.{IsFormCause}
use Rattle.lie_lin.specs.Systems.{unknown_of}
use Rattle.lie_steps.specs.Bulks.{derivatives_made}
use Rattle.lie_steps.specs.Derivatives.{derivatives, missing}
use Rattle.lie_steps.specs.NormalForm.{combined_bulk, reduction_made}
use Rattle.lie_normal.proofs.WorkSteps.{form_work, last_contained, within_more}
use Rattle.lie_normal.proofs.reduction.reduced.Goals as goal

pub returns-in_err-combined-clause-past : goal.returns-in_err-combined-clause-past
returns-in_err-combined-clause-past c =
    let d = derivative_of c.args.der.now in
    let us = map unknown_of c.args.unknowns.now in
    let K = missing (derivative_of c.args.lead.now).counts d.counts in
    let p = err_from_is_err_and c.from_residual-in_err-combined.result c.from_residual-in_err-combined.ensures.1 in
    rw (p.1, p.2) (form_work (Contains (reduction_made us c.args.eq.now d c.args.equation.now (derivative_of c.args.lead.now))) c.in_err-combined.field-0.0 (combined_bulk d c.args.eq.now (derivatives us K c.args.equation.now))
    (last_contained (derivatives_made us K c.args.equation.now) (AForm (combined_bulk d c.args.eq.now (derivatives us K c.args.equation.now))))
    (subst (λ (D : LinearForm). IsFormCause c.in_err-combined.field-0.0 (combined_bulk d c.args.eq.now D)) c.in_ok-raised.ensures.derivative c.in_err-combined.ensures.past))

pub returns-clause-fits : goal.returns-clause-fits
returns-clause-fits c =
    let d = derivative_of c.args.der.now in
    let us = map unknown_of c.args.unknowns.now in
    let K = missing (derivative_of c.args.lead.now).counts d.counts in
    within_more (derivatives_made us K c.args.equation.now) (AForm (combined_bulk d c.args.eq.now (derivatives us K c.args.equation.now))) c.in_ok-raised.ensures.fits
    (subst (λ (D : LinearForm). IsFormWithinLimits (combined_bulk d c.args.eq.now D)) c.in_ok-raised.ensures.derivative c.in_ok-combined.ensures.fits)
