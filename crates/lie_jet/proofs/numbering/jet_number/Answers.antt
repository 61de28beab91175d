use Rattle.std.proofs.Common.{arith, sym, ◌≡◌, ◌∙◌, ◌<◌, ◌+◌, ◌-◌, ◌*◌, ap, subst, take, length}
use Rattle.lie_geometry.specs.Coordinates.{Space, IsCoordinate, number, jet, coordinates_up_to, sum_below, ways}
use Rattle.lie_jet.specs.Jets.{coordinate_of}
use Rattle.lie_jet.proofs.JetNumbers.{number_from, number_low, length_cut}
use Rattle.lie_jet.proofs.numbering.jet_number.Goals as goal
use Rattle.lie_jet.proofs.numbering.jet_number.Goals.{After-rank_of}

made : (c : After-rank_of) → c.from-2.result + c.from-3.result * c.lists_below-below.result + c.from-4.result * (c.lists_below.result - c.lists_below-below.result) + c.rank_of.result ≡ number c.args.space (coordinate_of c.args.space c.args.jet.now)
made c =
    let p : c.from.result ≡ c.args.space.p = c.from.ensures ∙ ap (λ (s : Space). s.p) c.space.view_is in
    let q : c.from-3.result ≡ c.args.space.q = c.from-3.ensures ∙ ap (λ (s : Space). s.q) c.space.view_is in
    let J = take c.from.result c.args.jet.now.counts in
    let l : length J ≡ c.from.result = length_cut c.from.result c.args.jet.now.counts c.requires.four (omega arith) in
    let e = number_from c.args.space c.from-4.result J c.from-2.result c.from-3.result c.lists_below-below.result c.lists_below.result c.rank_of.result (c.from-2.ensures ∙ ap (λ (s : Space). s.p) c.space.view_is) q (l ∙ p)
    (c.lists_below-below.ensures.count ∙ ap (sum_below (ways (length J))) c.sum_of_counts-order.ensures)
    (c.lists_below.ensures.count ∙ ap (λ n. sum_below (ways (length J)) (n + 1)) c.sum_of_counts-order.ensures)
    c.rank_of.ensures.rank in
    e ∙ ap (λ a. number c.args.space (jet a J)) c.from-4.ensures ∙ ap (λ n. number c.args.space (jet c.args.jet.now.dep (take n c.args.jet.now.counts))) p

pub returns-clause-number : goal.returns-clause-number
returns-clause-number c = made c

pub returns-clause-low : goal.returns-clause-low
returns-clause-low c =
    let p : c.space.inside.p ≡ c.args.space.p = ap (λ (s : Space). s.p) c.space.view_is in
    let q : c.space.inside.q ≡ c.args.space.q = ap (λ (s : Space). s.q) c.space.view_is in
    let is : IsCoordinate c.args.space (coordinate_of c.args.space c.args.jet.now) = (c.requires.dependent, length_cut c.args.space.p c.args.jet.now.counts c.requires.four (omega arith)) in
    subst (λ n. n < coordinates_up_to c.args.space 12) (sym (made c)) (number_low c.args.space (omega arith) (omega arith) _ _ is c.requires.low)
