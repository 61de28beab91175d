use Rattle.std.proofs.Common.{◌<◌, ◌∙◌, ap, slice_set, arith, length}
use Rattle.std.proofs.lemmas.List.Edits.{map_over_more}
use Rattle.lie_tables.specs.Places.{lifted}
use Rattle.lie_tables.proofs.places.open_place.Goals as goal

pub loop-i-preserved : goal.loop-i-preserved
loop-i-preserved c =
    let lt : c.loop-i.i < length c.args.list.now.items = omega (arith, c.args.list.now.ok.0, c.len-i-end.ensures, c.loop-i-test.true) in
    ap (slice_set c.loop-i.list.items c.loop-i.i) c.lifted.ensures
    ∙ map_over_more (lifted c.args.place) c.args.list.now.items c.loop-i.list.items c.loop-i.i c.index.result.now lt c.loop-i.invariant
    c.index.ensures
