use Rattle.std.proofs.Common.{◌≡◌, ◌<◌, ◌∙◌, max, length, get_or, arith}
use Rattle.std.proofs.lemmas.List.{length-set}
use Rattle.lie_parts.proofs.FilledPlaces.{set_more}
use Rattle.lie_cross.proofs.CommonMultiples.{common_counts}
use Rattle.lie_cross.proofs.cross.common_multiple.Goals as goal

pub loop-i-preserved : goal.loop-i-preserved
loop-i-preserved c =
    let eight : length c.loop-i.common.counts ≡ 8 = c.loop-i.invariant.places in
    let lt : c.loop-i.i < length c.loop-i.common.counts = omega (arith, eight, c.loop-i-test.true) in
    record {
      places = length-set c.loop-i.common.counts c.loop-i.i c.max.result ∙ eight;
      unknown = c.loop-i.invariant.unknown;
      joined = set_more
          (λ k. max (get_or c.args.left.now.counts k 0)
          (get_or c.args.right.now.counts k 0)) 0 c.loop-i.common.counts c.loop-i.i c.max.result lt c.loop-i.invariant.joined c.max.ensures;
    }

pub returns : goal.returns
returns c =
    let eight : length c.loop-i.common.counts ≡ 8 = c.loop-i.invariant.places in
    let left : length c.args.left.now.counts ≡ 8 = omega arith in
    let right : length c.args.right.now.counts ≡ 8 = omega arith in
    let same = common_counts c.args.left.now.counts c.args.right.now.counts c.loop-i.common.counts (omega (arith, eight, left))
    (omega (arith, eight, right))
    (λ k lt. c.loop-i.invariant.joined k (omega (arith, eight, lt, c.loop-i-test.false))) in
    λ i. record { unknown = c.loop-i.invariant.unknown i; counts = same i }
