use Rattle.std.proofs.Common.{◌≡◌, ◌≤◌, ◌++◌, ◌∷◌, [], ◌+◌, arith, sym, ap, ap₂, ◌∙◌, List, length}
use Rattle.std.proofs.lemmas.List.FromFn.{map-range_with_len_more}
use Rattle.lie_math.specs.LinearForm.{LinearForm}
use Rattle.lie_geometry.specs.Coordinates.{Space, coordinates_up_to}
use Rattle.lie_geometry.proofs.Numbers.{count_rises}
use Rattle.lie_symbolic.specs.SymbolicCoefficients.{coefficient_among, coefficients_among}
use Rattle.lie_symbolic.proofs.SymbolicWithin.{jets_counted, few_coordinates}
use Rattle.lie_symbolic.proofs.symbolic.prolong_sym.Goals as goal

pub overflow_cast-count : goal.overflow_cast-count
overflow_cast-count c =
    let S = c.args.space in
    let js = c.as_slice.result.now in
    let e : length js ≡ length c.in_ok-jets.jets.items = ap length c.as_slice.ensures.value in
    let n : S.p + length c.in_ok-jets.jets.items ≡ coordinates_up_to S c.args.order = jets_counted S c.space_is_small.ensures c.args.order c.in_ok-jets.jets.items c.in_ok-jets.ensures in
    let few : coordinates_up_to S c.args.order ≤ 7284 = few_coordinates S c.space_is_small.ensures c.args.order c.requires.low in
    omega arith

pub overflow_add-count : goal.overflow_add-count
overflow_add-count c =
    let S = c.args.space in
    let js = c.as_slice.result.now in
    let e : length js ≡ length c.in_ok-jets.jets.items = ap length c.as_slice.ensures.value in
    let p : c.from.result ≡ S.p = c.from.ensures ∙ ap (λ (s : Space). s.p) c.space.view_is in
    let n : S.p + length c.in_ok-jets.jets.items ≡ coordinates_up_to S c.args.order = jets_counted S c.space_is_small.ensures c.args.order c.in_ok-jets.jets.items c.in_ok-jets.ensures in
    let few : coordinates_up_to S c.args.order ≤ 7284 = few_coordinates S c.space_is_small.ensures c.args.order c.requires.low in
    omega arith

pub coefficient_at-requires : goal.coefficient_at-requires
coefficient_at-requires c =
    let S = c.args.space in
    let js = c.as_slice.result.now in
    let e : length js ≡ length c.in_ok-jets.jets.items = ap length c.as_slice.ensures.value in
    let p : c.from.result ≡ S.p = c.from.ensures ∙ ap (λ (s : Space). s.p) c.space.view_is in
    let n : S.p + length c.in_ok-jets.jets.items ≡ coordinates_up_to S c.args.order = jets_counted S c.space_is_small.ensures c.args.order c.in_ok-jets.jets.items c.in_ok-jets.ensures in
    let rise : coordinates_up_to S c.args.order ≤ coordinates_up_to S 6 = count_rises S c.space_is_small.ensures.some_p c.space_is_small.ensures.some_q c.args.order 6 c.requires.low in
    let t = c.loop-number-test.true in
    omega arith

pub returns : goal.returns
returns c =
    let S = c.args.space in
    let js = c.as_slice.result.now in
    let e : length js ≡ length c.in_ok-jets.jets.items = ap length c.as_slice.ensures.value in
    let p : c.from.result ≡ S.p = c.from.ensures ∙ ap (λ (s : Space). s.p) c.space.view_is in
    let n : S.p + length c.in_ok-jets.jets.items ≡ coordinates_up_to S c.args.order = jets_counted S c.space_is_small.ensures c.args.order c.in_ok-jets.jets.items c.in_ok-jets.ensures in
    let t = c.loop-number-test.false in
    let u = c.loop-number.auto.number-end in
    let whole : c.loop-number.number ≡ coordinates_up_to S c.args.order = omega arith in
    c.loop-number.invariant ∙ ap (coefficients_among S c.args.numbers.now) whole

pub loop-number-preserved : goal.loop-number-preserved
loop-number-preserved c =
    c.in_ok-push.ensures.items ∙ ap₂ (λ (es : List LinearForm) e. es ++ e ∷ []) c.loop-number.invariant c.in_ok-next.ensures
    ∙ sym (map-range_with_len_more (coefficient_among c.args.space c.args.numbers.now) 0 c.loop-number.number c.loop-number.number (omega arith))
