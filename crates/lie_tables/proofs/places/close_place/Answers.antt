use Rattle.std.proofs.Common.{◌≡◌, ◌<◌, ◌≤◌, ◌∙◌, ap, slice_set, arith, rules, length, filter, not, eqb, map}
use Rattle.std.proofs.lemmas.Fn.{filter_same}
use Rattle.std.proofs.lemmas.List.Edits.{map_over_more}
use Rattle.std.proofs.lemmas.Grind.{common_steps}
use Rattle.lie_tables.specs.Places.{lowered}
use Rattle.lie_tables.proofs.places.close_place.Goals as goal

pub loop-i-preserved : goal.loop-i-preserved
loop-i-preserved c =
    let lt : c.loop-i.i < length c.retain.new.self.items = omega (arith, c.retain.new.self.ok.0, c.len-i-end.ensures, c.loop-i-test.true) in
    ap (slice_set c.loop-i.list.items c.loop-i.i) c.lowered.ensures
    ∙ map_over_more (lowered c.args.place) c.retain.new.self.items c.loop-i.list.items c.loop-i.i c.index.result.now lt c.loop-i.invariant
    c.index.ensures

pub returns : goal.returns
returns c =
    let kept : c.retain.new.self.items ≡ filter (λ p. not (eqb p c.args.place)) c.args.list.now.items =
    filter_same _ _ _ (λ x b f' k. search rules) _ _ c.retain.ensures.filtered in
    let all : length c.retain.new.self.items ≤ c.loop-i.i = omega (arith, c.retain.new.self.ok.0, c.len-i-end.ensures, c.loop-i-test.false) in
    let e : c.loop-i.list.items ≡ map (lowered c.args.place) c.retain.new.self.items = grind (arith, common_steps) in
    e ∙ ap (map (lowered c.args.place)) kept
