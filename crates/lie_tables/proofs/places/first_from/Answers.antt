use Rattle.std.proofs.Common.{rules, ltb, arith}
use Rattle.std.proofs.lemmas.List.Sorted.{IsPartitionPoint-from_clause}
use Rattle.lie_tables.proofs.NextPlaces.{first_at, first_past}
use Rattle.lie_tables.proofs.places.first_from.Goals as goal

pub returns-then-at-list : goal.returns-then-at-list
returns-then-at-list c =
    first_at c.args.place c.args.list.now c.partition_point-at.result _ (omega arith)
    (IsPartitionPoint-from_clause (λ p. ltb p c.args.place) c.args.list.now c.partition_point-at.result
    c.partition_point-at.ensures.partitioned c.requires (λ a r f' k. search rules))

pub returns-else-at-list : goal.returns-else-at-list
returns-else-at-list c =
    first_past c.args.place c.args.list.now c.partition_point-at.result (omega arith)
    (IsPartitionPoint-from_clause (λ p. ltb p c.args.place) c.args.list.now c.partition_point-at.result
    c.partition_point-at.ensures.partitioned c.requires (λ a r f' k. search rules))
