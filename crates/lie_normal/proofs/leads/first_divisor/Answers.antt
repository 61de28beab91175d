use Rattle.std.proofs.Common.{◌≤◌, ◌+◌, subst, drop}
use Rattle.std.specs.List.{AllByRecursion as Every}
use Rattle.lie_jet.specs.Derivatives.{derivative_of}
use Rattle.lie_normal.specs.Leads.{IsNoDivisor}
use Rattle.lie_normal.specs.declared.leads.PlacedLead.{PlacedLead}
use Rattle.lie_normal.proofs.LeadOrder.{every_cover, beyond_divides}
use Rattle.lie_normal.proofs.leads.first_divisor.Goals as goal

pub returns : goal.returns
returns c =
    every_cover (IsNoDivisor (derivative_of c.args.der.now)) c.args.leads.now c.loop-i.i c.place_of-high.result c.loop-i-test.false c.loop-i.invariant
    (beyond_divides (derivative_of c.args.der.now) (drop c.place_of-high.result c.args.leads.now)
    (subst (λ u. Every (λ (x : PlacedLead). u + 1 ≤ x.lead.unknown) (drop c.place_of-high.result c.args.leads.now)) c.from-2.ensures c.place_of-high.ensures.behind))
