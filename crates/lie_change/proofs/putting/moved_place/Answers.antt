use Rattle.std.proofs.Common.{get_or, ◌∙◌}
use Rattle.lie_normal.proofs.Falling.{get_same}
use Rattle.lie_change.proofs.MovedPlaces.{moved_more, small_more}
use Rattle.lie_change.proofs.putting.moved_place.Goals as goal

pub loop-put-preserved : goal.loop-put-preserved
loop-put-preserved c = record {
  is = c.place_after-now.ensures ∙ moved_more c.args.place c.args.places.now c.loop-put.put-index c.loop-put.now
      (get_or c.args.places.now c.loop-put.put-index 0) c.loop-put-test.true
      (get_same c.args.places.now c.loop-put.put-index 0 c.loop-put-test.true) c.loop-put.invariant.is;
  small = small_more c.loop-put.now (get_or c.args.places.now c.loop-put.put-index 0) c.place_after-now.result c.args.place
      c.loop-put.put-index c.place_after-now.ensures c.loop-put.invariant.small;
}
