use Rattle.std.proofs.Common.{arith}
use Rattle.lie_read_report.proofs.LastPlaces.{step_on, step_here}
use Rattle.lie_read_report.proofs.places.last_place.Goals as goal

pub returns-then-begins_with : goal.returns-then-begins_with
returns-then-begins_with c = step_here c.args.letter c.args.lines.now c.loop-i.i _ c.loop-i-test.true c.loop-i.invariant.within c.loop-i.invariant.none c.begins_with.result c.begins_with.ensures c.if-begins_with.true

pub loop-i-preserved : goal.loop-i-preserved
loop-i-preserved c = record {
  within = let h = c.loop-i.invariant.within in omega arith;
  none = step_on c.args.letter c.args.lines.now c.loop-i.i _ c.loop-i-test.true c.loop-i.invariant.within c.loop-i.invariant.none c.begins_with.result c.begins_with.ensures c.if-begins_with.false;
}
