use Rattle.std.proofs.Common.{◌++◌, ◌∷◌, [], arith, sym, ap₂, ◌∙◌, List}
use Rattle.std.proofs.lemmas.List.FromFn.{map-range_with_len_more}
use Rattle.lie_math.specs.LinearForm.{LinearForm}
use Rattle.lie_geometry.specs.SymbolicProlongation.{unknown}
use Rattle.lie_determining.proofs.unknowns.general.Goals as goal

pub loop-place-preserved : goal.loop-place-preserved
loop-place-preserved c =
    c.in_ok-push.ensures.items ∙ ap₂ (λ (es : List LinearForm) e. es ++ e ∷ []) c.loop-place.invariant c.in_ok-form.ensures
    ∙ sym (map-range_with_len_more unknown 0 c.loop-place.place c.loop-place.place (omega arith))
