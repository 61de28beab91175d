use Rattle.std.proofs.Common.{rules, arith, true, false, get_or, ltb, ltb-true, ltb-false, ◌≡◌, ◌<◌, ◌≤◌}
use Rattle.std.specs.List.Sorted.{IsPartitionPoint}
use Rattle.std.proofs.lemmas.List.Sorted.{IsPartitionPoint-from_clause}
use Rattle.lie_normal.specs.declared.leads.PlacedLead.{PlacedLead}
use Rattle.lie_normal.proofs.LeadOrder.{lesser_stand_first, every_before, every_from}
use Rattle.lie_normal.proofs.leads.place_of.Goals as goal

point : (c : goal.After-partition_point) → IsPartitionPoint (λ (x : PlacedLead). ltb x.lead.unknown c.args.number ≡ true)
    (λ (x : PlacedLead). ltb x.lead.unknown c.args.number ≡ false) c.args.leads.now c.partition_point.result
point c =
    IsPartitionPoint-from_clause (λ (x : PlacedLead). ltb x.lead.unknown c.args.number) c.args.leads.now c.partition_point.result
    c.partition_point.ensures.partitioned (lesser_stand_first c.args.number c.args.leads.now c.requires) (λ a r f' k. search rules)

pub returns-clause-before : goal.returns-clause-before
returns-clause-before c =
    every_before (λ (x : PlacedLead). x.lead.unknown < c.args.number) c.args.leads.now c.partition_point.result c.partition_point.ensures.bound
    (λ k d lt. ltb-true (get_or c.args.leads.now k d).lead.unknown c.args.number ((point c).0 k d (omega arith) lt))

pub returns-clause-behind : goal.returns-clause-behind
returns-clause-behind c =
    every_from (λ (x : PlacedLead). c.args.number ≤ x.lead.unknown) c.args.leads.now c.partition_point.result
    (λ k d le lt. ltb-false (get_or c.args.leads.now k d).lead.unknown c.args.number ((point c).1 k d le lt))
