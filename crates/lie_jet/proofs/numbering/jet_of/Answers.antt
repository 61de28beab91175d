use Rattle.std.proofs.Common.{ℕ, suc, arith, sym, ◌≡◌, ◌∙◌, ◌<◌, ◌+◌, ◌-◌, ◌*◌, ◌/◌, ◌≤◌, ◌++◌, ◌∷◌, [], ap, subst, drop, Some}
use Rattle.std.proofs.lemmas.List.{length-take-le}
use Rattle.lie_math.specs.Counts.{order}
use Rattle.lie_geometry.specs.Coordinates.{Space, number, coordinates_up_to, sum_below, ways}
use Rattle.lie_jet.specs.Jets.{coordinate_of, IsJet, IsSmall}
use Rattle.lie_jet.specs.declared.jet.Jet.{Jet}
use Rattle.lie_jet.proofs.JetNumbers.{number_low, length_cut, past_from}
use Rattle.lie_jet.proofs.NumberedJets.{jet_made_from, jet_is, jet_alone, jet_after}
use Rattle.lie_jet.proofs.numbering.jet_of.Goals as goal
use Rattle.lie_jet.proofs.numbering.jet_of.Goals.{After-put_counts, Then-place-q}

past : (c : Then-place-q) → coordinates_up_to c.args.space 12 ≤ c.args.number
past c =
    let p = ap (λ (s : Space). s.p) c.space.view_is in
    let q = ap (λ (s : Space). s.q) c.space.view_is in
    past_from c.args.space 13 c.args.number c.from-p.result c.from-2.result c.from-q.result c.lists_below.result (c.from-p.ensures ∙ p) (c.from-2.ensures ∙ p) (c.from-q.ensures ∙ q) c.lists_below.ensures.count (omega arith) c.if-place-q.true

module _ (c : After-put_counts) where
  p_is : c.space.inside.p ≡ c.args.space.p
  p_is = ap (λ (s : Space). s.p) c.space.view_is

  q_is : c.space.inside.q ≡ c.args.space.q
  q_is = ap (λ (s : Space). s.q) c.space.view_is

  small : IsSmall c.args.space
  small = let p = p_is in let q = q_is in record { some_p = omega arith; few_p = omega arith; some_q = omega arith; few_q = omega arith }

  abbrev answer : Jet
  answer = record {
    dep = (c.args.number - c.from-2.result - c.from-q.result * c.lists_below-below.result) / (c.lists_below-2.result - c.lists_below-below.result);
    counts = c.put_counts.new.counts ++ drop {A = ℕ} c.from-p.result (0 ∷ 0 ∷ 0 ∷ 0 ∷ []);
  }

  made : IsJet c.args.space 12 answer × (number c.args.space (coordinate_of c.args.space answer) ≡ c.args.number)
  made =
      let K = c.put_counts.new.counts in
      let o : order K ≡ c.sum_at-order.result = c.put_counts.ensures.sum in
      jet_made_from c.args.space small c.args.number c.from-p.result c.from-2.result c.from-q.result c.lists_below-below.result c.lists_below-2.result K
      (c.from-p.ensures ∙ p_is) (c.from-2.ensures ∙ p_is) (c.from-q.ensures ∙ q_is) (omega arith) (omega (arith, c.sum_at-order.ensures.most)) (c.put_counts.auto.counts ∙ length-take-le c.from-p.result _ (let e = p_is in let f = small.few_p in let g = c.from-p.ensures in omega arith))
      (c.lists_below-below.ensures.count ∙ ap (sum_below (ways c.from-p.result)) (sym o))
      (c.lists_below-2.ensures.count ∙ ap (λ n. sum_below (ways c.from-p.result) (n + 1)) (sym o))
      (subst (λ x. c.from-q.result * x ≤ c.args.number - c.from-2.result) (sym c.lists_below-below.ensures.count) c.sum_at-order.ensures.at)
      (subst (λ n. c.args.number - c.from-2.result < c.from-q.result * sum_below (ways c.from-p.result) (suc n)) (sym o) c.sum_at-order.ensures.next)
      c.put_counts.ensures.rank

pub returns-clause-jet : goal.returns-clause-jet
returns-clause-jet c = let k = (goal.at.returns-clause-jet c).After-put_counts in jet_is c.args.space (small k) _ _ (made k)

pub returns-clause-inverse : goal.returns-clause-inverse
returns-clause-inverse c j is e = let k = (goal.at.returns-clause-inverse c).After-put_counts in ap Some (jet_alone c.args.space (small k) c.args.number _ j (made k) is e)

pub returns-then-number-from-clause-inverse : goal.returns-then-number-from-clause-inverse
returns-then-number-from-clause-inverse c j is e =
    let h : c.args.space.p ≤ number c.args.space (coordinate_of c.args.space j) = jet_after c.args.space _ _ in
    let p : c.space.inside.p ≡ c.args.space.p = ap (λ (s : Space). s.p) c.space.view_is in
    absurd (omega arith)

pub returns-then-place-q-clause-inverse : goal.returns-then-place-q-clause-inverse
returns-then-place-q-clause-inverse c j is e =
    let p : c.space.inside.p ≡ c.args.space.p = ap (λ (s : Space). s.p) c.space.view_is in
    let q : c.space.inside.q ≡ c.args.space.q = ap (λ (s : Space). s.q) c.space.view_is in
    let few : c.args.space.p ≤ 4 = omega arith in
    let low : number c.args.space (coordinate_of c.args.space j) < coordinates_up_to c.args.space 12 = number_low c.args.space (omega arith) (omega arith) _ _ (is.dependent, length_cut c.args.space.p j.counts is.four few) is.low in
    let high : coordinates_up_to c.args.space 12 ≤ c.args.number = past c in
    absurd (omega arith)
