use Rattle.std.proofs.Common.{rules, refl, true, false, ltb, ◌≡◌}
use Rattle.std.specs.List.Sorted.{IsPartitionPoint}
use Rattle.std.proofs.lemmas.List.Sorted.{IsPartitionPoint-from_clause}
use Rattle.lie_lin.specs.declared.system.Unknown.{Unknown}
use Rattle.lie_report.proofs.ShownNumbers.{lesser_stand_first, shown_by_count}
use Rattle.lie_report.proofs.terms.shown_number.Goals as goal

point : (c : goal.After-partition_point) → IsPartitionPoint (λ (f : Unknown). ltb f.number c.args.number ≡ true) (λ (f : Unknown). ltb f.number c.args.number ≡ false)
    c.args.unknowns.now c.partition_point.result
point c =
    IsPartitionPoint-from_clause (λ (f : Unknown). ltb f.number c.args.number) c.args.unknowns.now c.partition_point.result
    c.partition_point.ensures.partitioned (lesser_stand_first c.args.number c.args.unknowns.now c.requires) (λ a r f' k. search rules)

pub returns : goal.returns
returns c = shown_by_count c.args.unknowns.now c.args.number c.partition_point.result _ c.partition_point.ensures.bound (point c) refl
