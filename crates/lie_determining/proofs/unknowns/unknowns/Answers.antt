use Rattle.std.proofs.Common.{◌≡◌, ◌++◌, ◌+◌, ◌∷◌, [], arith, add-one, sym, ap, ap₂, ◌∙◌, map, List}
use Rattle.std.proofs.lemmas.List.{map-append}
use Rattle.std.proofs.lemmas.List.FromFn.{map-range_with_len_more}
use Rattle.std.specs.List.{range_with_len}
use Rattle.lie_math.specs.LinearSystem.{Unknown}
use Rattle.lie_lin.specs.declared.system.Unknown as kept
use Rattle.lie_lin.specs.Systems.{unknown_of}
use Rattle.lie_determining.proofs.ValidOpening.{listed_unknown}
use Rattle.lie_determining.proofs.unknowns.unknowns.Goals as goal

pub loop-place-preserved : goal.loop-place-preserved
loop-place-preserved c =
    let new : kept.Unknown = record { number = c.loop-place.place + 1; vars = c.bits_below-vars.result } in
    let variables = c.bits_below-vars.ensures ∙ ap (range_with_len 0) c.count_z-count.ensures.count in
    let same : unknown_of new ≡ listed_unknown c.args.space c.loop-place.place = λ i. record { number = add-one c.loop-place.place i; variables = variables i } in
    ap (map unknown_of) c.in_ok-push.ensures.items ∙ map-append unknown_of c.loop-place.list.items (new ∷ [])
    ∙ ap₂ (λ (us : List Unknown) (u : Unknown). us ++ u ∷ []) c.loop-place.invariant same ∙ sym (map-range_with_len_more (listed_unknown c.args.space) 0 c.loop-place.place c.loop-place.place (omega arith))
