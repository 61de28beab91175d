use Rattle.std.proofs.Common.{ℕ, arith, ap, subst, sym, ◌∙◌, ◌≡◌, ◌<◌, ◌≤◌, ◌+◌, ◌++◌, ◌∷◌, [], List, length}
use Rattle.std.specs.List.{range_with_len}
use Rattle.std.specs.Prelude.{All}
use Rattle.std.proofs.lemmas.List.{length_push}
use Rattle.std.proofs.lemmas.List.Elements.{All-push}
use Rattle.lie_geometry.specs.Coordinates.{number, coordinates_up_to}
use Rattle.lie_geometry.proofs.NumberOrder.{number_below_bound}
use Rattle.lie_jet.specs.Jets.{coordinate_of, IsJet, IsSmall}
use Rattle.lie_jet.specs.declared.jet.Jet.{Jet}
use Rattle.lie_jet.proofs.JetNumbers.{length_cut}
use Rattle.lie_jet.proofs.JetLists.{numbers_of, number_is, low_number, lower_order, all_numbered, past_end, end_found, range_push}
use Rattle.lie_jet.proofs.jets_in_order.jets_up_to.Goals as goal
use Rattle.lie_jet.proofs.jets_in_order.jets_up_to.Goals.{in-Some+then-order_of-from, in_default}

pub overflow_add-number : goal.overflow_add-number
overflow_add-number c =
    let small = c.in-Some.ensures.small in
    let is = c.in-Some.ensures.jet.0 in
    let e : number c.args.space (coordinate_of c.args.space c.in-Some.jet) ≡ c.loop-jet.number = number_is c.args.space small c.loop-jet.number c.in-Some.jet c.in-Some.ensures.jet.1 in
    let h : number c.args.space (coordinate_of c.args.space c.in-Some.jet) < 7284 = number_below_bound c.args.space small.some_p small.few_p small.some_q small.few_q _ _ (is.dependent, length_cut c.args.space.p c.in-Some.jet.counts is.four small.few_p) is.low in
    omega arith

pub loop-jet-preserved : goal.loop-jet-preserved
loop-jet-preserved c =
    let S = c.args.space in
    let small = c.in-Some.ensures.small in
    let is = c.in-Some.ensures.jet in
    let low = subst (λ n. n ≤ c.args.order) c.order_of.ensures (let k = c.from.ensures in omega arith) in
    let pushed : c.push.new.self.items ≡ c.loop-jet.jets.items ++ c.in-Some.jet ∷ [] = c.in_ok-push.ensures.items in
    let below : c.loop-jet.number < coordinates_up_to S c.args.order = low_number S small c.args.order c.loop-jet.number c.in-Some.jet is.1 low in
    record {
      place = ap (λ n. n + 1) c.loop-jet.invariant.place ∙ longer S.p c.loop-jet.jets.items c.push.new.self.items c.in-Some.jet pushed;
      jets = subst (λ (js : List Jet). All (IsJet S c.args.order) js) (sym pushed) (All-push (IsJet S c.args.order) c.loop-jet.jets.items c.in-Some.jet c.loop-jet.invariant.jets (lower_order S small c.args.order 12 c.in-Some.jet is.0 low));
      numbers = subst (λ (js : List Jet). numbers_of S js ≡ range_with_len S.p (length js)) (sym pushed) (range_push S.p c.loop-jet.jets.items c.in-Some.jet (λ j. number S (coordinate_of S j)) c.loop-jet.invariant.numbers (number_is S small c.loop-jet.number c.in-Some.jet is.1 ∙ c.loop-jet.invariant.place));
      within = omega arith;
    }
  where
    longer : (p : ℕ) (xs ys : List Jet) (j : Jet) → ys ≡ xs ++ j ∷ [] → p + length xs + 1 ≡ p + length ys
    longer p xs ys j e = let l : length ys ≡ length xs + 1 = ap length e ∙ length_push xs j in omega arith

pub returns : goal.returns
returns c =
    let S = c.args.space in
    let all = λ (small : IsSmall S) (e : c.loop-jet.number ≡ coordinates_up_to S c.args.order). all_numbered S small c.args.order c.loop-jet.number c.loop-jet.jets.items c.loop-jet.invariant.jets c.loop-jet.invariant.numbers c.loop-jet.invariant.place e in
    elim c.match-jet_of.branch [
      | in-Some+then-order_of-from w ↦ all w.in-Some.ensures.small (end_found S w.in-Some.ensures.small c.args.order c.loop-jet.number w.in-Some.jet w.in-Some.ensures.jet.1 (subst (λ n. c.args.order < n) w.order_of.ensures (let k = w.from.ensures in omega arith)) c.loop-jet.invariant.within)
      | in_default w ↦ all w.in_default.ensures.small (past_end S w.in_default.ensures.small c.args.order c.loop-jet.number c.requires (let h = c.loop-jet.invariant.place in omega arith) c.loop-jet.invariant.within w.in_default.ensures.jet)
    ]
