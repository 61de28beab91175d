use Rattle.lie_normal.specs.Leads.{AreLeads}
use Rattle.lie_normal.proofs.leads.leads_of.Given as goal

abbrev pub invariant-loop-place : goal.invariant-loop-place
invariant-loop-place l = AreLeads l.list l.place l.leads.items
