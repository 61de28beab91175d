use Rattle.std.proofs.Common.{sym, subst, List}
use Rattle.std.specs.List.{AllByRecursion as Every, Any}
use Rattle.lie_systems.specs.Bulk.{bulk, IsFormWithinLimits}
use Rattle.std.proofs.lemmas.Result.{on_ok_weaker}
use Rattle.lie_systems.specs.Triples.{sum_of_triples}
use Rattle.lie_lin.specs.Forms.{triples_of}
use Rattle.lie_parts.specs.declared.buckets.Bucket.{Bucket}
use Rattle.lie_lin.specs.EquationLists.{Adds, IsEquationOf}
use Rattle.lie_parts.proofs.BucketParts.{buckets_within}
use Rattle.lie_geometry.specs.Prolongation.{is_in_z}
use Rattle.lie_determining.proofs.EquationSteps.{adds_condition}
use Rattle.lie_determining.proofs.equations.put_condition.Goals as goal

pub returns : goal.returns
returns c =
    on_ok_weaker c.put_parts.result
    (λ h. adds_condition c.args.space c.args.condition.now c.in_ok-buckets.buckets.items c.in_ok-buckets.ensures c.args.equations.now.items c.put_parts.new.equations.items
    (subst (λ (bs : List Bucket). Adds (λ e. Any (λ (b : Bucket). IsEquationOf (sum_of_triples (triples_of b.triples.items)) e) bs) c.args.equations.now.items c.put_parts.new.equations.items) c.as_slice.ensures.value h))
    c.put_parts.ensures

pub put_parts-requires-clause-limits : goal.put_parts-requires-clause-limits
put_parts-requires-clause-limits c =
    subst (λ (bs : List Bucket). Every (λ (b : Bucket). IsFormWithinLimits (bulk (triples_of b.triples.items))) bs) (sym c.as_slice.ensures.value)
    (buckets_within (is_in_z c.args.space) c.args.condition.now c.in_ok-buckets.buckets.items c.in_ok-buckets.ensures c.requires.limits)
