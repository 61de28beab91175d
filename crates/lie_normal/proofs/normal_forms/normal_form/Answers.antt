use Rattle.std.proofs.Common.{map, length, sym, subst}
use Rattle.std.proofs.lemmas.Result.{err_from_is_err_and}
use Rattle.lie_math.specs.LinearForm.{no_form}
use Rattle.lie_jet.specs.Derivatives.{derivative_of}
use Rattle.lie_lin.specs.Systems.{unknown_of}
use Rattle.lie_normal.specs.Leads.{AreLeads}
use Rattle.lie_normal.proofs.LeadOrder.{got}
use Rattle.lie_normal.proofs.NormalFormSteps.{IsReducedFrom, reduced_start}
use Rattle.lie_normal.proofs.NormalFormTurns.{place_inside, turn_cause, turn_next, turn_falls, last_normal, last_within}
use Rattle.lie_normal.proofs.normal_forms.normal_form.Goals as goal

pub loop-der-init : goal.loop-der-init
loop-der-init c = subst (IsReducedFrom (map unknown_of c.args.unknowns.now) c.args.list.now c.args.eq.now) (sym c.in_ok-form.ensures) (reduced_start (map unknown_of c.args.unknowns.now) c.args.list.now c.args.eq.now c.requires)

pub returns-in_err-form-2-clause-past : goal.returns-in_err-form-2-clause-past
returns-in_err-form-2-clause-past c =
    let p = err_from_is_err_and c.from_residual-in_err-form-2.result c.from_residual-in_err-form-2.ensures.1 in
    rw (p.1, p.2) (turn_cause (map unknown_of c.args.unknowns.now) c.args.list.now c.args.eq.now c.requires c.as_slice.result.now (subst (AreLeads c.args.list.now (length c.args.list.now)) (sym c.as_slice.ensures.value) c.in_ok-leads.ensures) c.loop-der.form c.loop-der.invariant
    (derivative_of c.in-Some.der) c.in-Some.divisor c.in-Some.ensures c.index-list-divisor.result
    (got c.args.list.now c.in-Some.divisor.place c.index-list-divisor.result no_form (place_inside (map unknown_of c.args.unknowns.now) c.args.list.now c.args.eq.now c.requires c.as_slice.result.now (subst (AreLeads c.args.list.now (length c.args.list.now)) (sym c.as_slice.ensures.value) c.in_ok-leads.ensures) c.loop-der.form c.loop-der.invariant
    (derivative_of c.in-Some.der) c.in-Some.divisor c.in-Some.ensures) c.index-list-divisor.is) c.in_err-form-2.field-0.0 c.in_err-form-2.ensures.past)

pub loop-der-smaller : goal.loop-der-smaller
loop-der-smaller c = turn_falls (map unknown_of c.args.unknowns.now) c.args.list.now c.args.eq.now c.requires c.as_slice.result.now (subst (AreLeads c.args.list.now (length c.args.list.now)) (sym c.as_slice.ensures.value) c.in_ok-leads.ensures) c.loop-der.form c.loop-der.invariant
    (derivative_of c.in-Some.der) c.in-Some.divisor c.in-Some.ensures c.index-list-divisor.result
    (got c.args.list.now c.in-Some.divisor.place c.index-list-divisor.result no_form (place_inside (map unknown_of c.args.unknowns.now) c.args.list.now c.args.eq.now c.requires c.as_slice.result.now (subst (AreLeads c.args.list.now (length c.args.list.now)) (sym c.as_slice.ensures.value) c.in_ok-leads.ensures) c.loop-der.form c.loop-der.invariant
    (derivative_of c.in-Some.der) c.in-Some.divisor c.in-Some.ensures) c.index-list-divisor.is) c.in_ok-form-2.form c.in_ok-form-2.ensures.reduced

pub loop-der-preserved : goal.loop-der-preserved
loop-der-preserved c = turn_next (map unknown_of c.args.unknowns.now) c.args.list.now c.args.eq.now c.requires c.as_slice.result.now (subst (AreLeads c.args.list.now (length c.args.list.now)) (sym c.as_slice.ensures.value) c.in_ok-leads.ensures) c.loop-der.form c.loop-der.invariant
    (derivative_of c.in-Some.der) c.in-Some.divisor c.in-Some.ensures c.index-list-divisor.result
    (got c.args.list.now c.in-Some.divisor.place c.index-list-divisor.result no_form (place_inside (map unknown_of c.args.unknowns.now) c.args.list.now c.args.eq.now c.requires c.as_slice.result.now (subst (AreLeads c.args.list.now (length c.args.list.now)) (sym c.as_slice.ensures.value) c.in_ok-leads.ensures) c.loop-der.form c.loop-der.invariant
    (derivative_of c.in-Some.der) c.in-Some.divisor c.in-Some.ensures) c.index-list-divisor.is) c.in_ok-form-2.form c.in_ok-form-2.ensures.reduced c.in_ok-form-2.ensures.fits

pub returns-clause-normal : goal.returns-clause-normal
returns-clause-normal c = last_normal (map unknown_of c.args.unknowns.now) c.args.list.now c.args.eq.now c.requires c.as_slice.result.now (subst (AreLeads c.args.list.now (length c.args.list.now)) (sym c.as_slice.ensures.value) c.in_ok-leads.ensures) c.loop-der.form c.loop-der.invariant c.in_default.ensures

pub returns-clause-fits : goal.returns-clause-fits
returns-clause-fits c = last_within (map unknown_of c.args.unknowns.now) c.args.list.now c.args.eq.now c.requires c.as_slice.result.now (subst (AreLeads c.args.list.now (length c.args.list.now)) (sym c.as_slice.ensures.value) c.in_ok-leads.ensures) c.loop-der.form c.loop-der.invariant c.in_default.ensures
