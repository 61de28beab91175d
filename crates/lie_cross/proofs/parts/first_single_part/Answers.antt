use Rattle.std.proofs.Common.{◌++◌, ◌∷◌, [], ◌∙◌, sym, ap, subst, map, take, arith, List}
use Rattle.lie_math.specs.LinearForm.{LinearForm}
use Rattle.lie_math.proofs.EveryElement.{every_picked}
use Rattle.lie_systems.specs.Bulk.{bulk, IsFormWithinLimits}
use Rattle.lie_lin.specs.Forms.{triples_of}
use Rattle.lie_lin.specs.Systems.{unknown_of}
use Rattle.lie_parts.specs.Parts.{is_inside}
use Rattle.lie_parts.specs.declared.buckets.Bucket.{Bucket}
use Rattle.lie_parts.proofs.BucketParts.{buckets_within}
use Rattle.lie_cross.specs.Isolate.{IsEarliest}
use Rattle.lie_cross.proofs.OuterParts.{inner, bucket_sum, sums_more, outer_buckets, all_sums, earliest_part}
use Rattle.lie_cross.proofs.parts.first_single_part.Goals as goal

pub loop-bucket-init : goal.loop-bucket-init
loop-bucket-init c = tt

pub sum_of-requires : goal.sum_of-requires
sum_of-requires c =
    let us = map unknown_of c.args.unknowns.now in
    let are = outer_buckets us c.args.form.now c.in_ok-buckets.buckets.items
    (is_inside c.inner_variables.result) c.terms.result.now c.inner_variables.ensures c.terms.ensures.list c.in_ok-buckets.ensures in
    let within =
    every_picked
    (λ (b : Bucket). IsFormWithinLimits
    (bulk (triples_of b.triples.items))) c.as_slice-bucket-items.result.now c.loop-bucket.bucket-index c.bucket-item.result
    c.loop-bucket-test.true
    (rw c.as_slice-bucket-items.ensures.value
    (buckets_within (inner us c.args.form.now) c.args.form.now c.in_ok-buckets.buckets.items are c.requires)) in
    rw c.as_slice.ensures.value
    (subst (λ (b : Bucket). IsFormWithinLimits (bulk (triples_of b.triples.items))) (sym c.bucket-item.is) within.0)

pub loop-bucket-preserved : goal.loop-bucket-preserved
loop-bucket-preserved c =
    subst (λ (Ps : List LinearForm). IsEarliest Ps c.in_ok-first.first)
    (ap (λ (P : LinearForm). map bucket_sum (take c.loop-bucket.bucket-index c.as_slice-bucket-items.result.now) ++ P ∷ [])
    (c.in_ok-part.ensures ∙ ap (λ ts. Rattle.lie_systems.specs.Triples.sum_of_triples (triples_of ts)) c.as_slice.ensures.value)
    ∙ sums_more c.as_slice-bucket-items.result.now c.loop-bucket.bucket-index c.bucket-item.result c.loop-bucket-test.true c.bucket-item.is)
    (c.in_ok-first.ensures (map bucket_sum (take c.loop-bucket.bucket-index c.as_slice-bucket-items.result.now)) c.loop-bucket.invariant)

pub returns : goal.returns
returns c =
    let us = map unknown_of c.args.unknowns.now in
    let are = outer_buckets us c.args.form.now c.in_ok-buckets.buckets.items
    (is_inside c.inner_variables.result) c.terms.result.now c.inner_variables.ensures c.terms.ensures.list c.in_ok-buckets.ensures in
    earliest_part us c.args.form.now c.in_ok-buckets.buckets.items are c.loop-bucket.first
    (all_sums c.as_slice-bucket-items.result.now c.in_ok-buckets.buckets.items c.loop-bucket.bucket-index c.loop-bucket.first
    c.as_slice-bucket-items.ensures.value (omega (arith, c.loop-bucket-test.false)) c.loop-bucket.invariant)
