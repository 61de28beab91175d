use Rattle.std.proofs.Common.{sym, subst, refl, ◌∙◌}
use Rattle.lie_math.specs.LinearForm.{no_form}
use Rattle.lie_systems.specs.Leads.{IsLead}
use Rattle.lie_jet.specs.Derivatives.{derivative_of}
use Rattle.lie_normal.proofs.LeadOrder.{leads_without, leads_with, got}
use Rattle.lie_normal.proofs.leads.leads_of.Goals as goal
use Rattle.lie_normal.proofs.leads.leads_of.Goals.{in-Some+in_ok-put, in_default}

pub loop-place-preserved : goal.loop-place-preserved
loop-place-preserved c =
    let equation = got c.args.list.now c.loop-place.place c.index-list-place.result no_form c.loop-place-test.true c.index-list-place.is in
    elim c.match-lead.branch [
      | in-Some+in_ok-put w ↦ rw w.leads-is (leads_with c.args.list.now c.loop-place.place c.loop-place.leads.items w.put.new.leads.items (record { lead = w.in-Some.lead; place = c.loop-place.place }) c.loop-place.invariant refl
          (subst (IsLead (derivative_of w.in-Some.lead)) (sym equation) w.in-Some.ensures) w.in_ok-put.ensures)
      | in_default w ↦ rw w.leads-is (leads_without c.args.list.now c.loop-place.place c.loop-place.leads.items c.loop-place.invariant (equation ∙ w.in_default.ensures))
    ]
