use Rattle.std.proofs.Common.{arith, ap, sym, subst, ◌∙◌, ◌≡◌, ◌<◌, ap₂, take}
use Rattle.std.proofs.lemmas.Result.{err_from_is_err_and}
use Rattle.lie_math.specs.Derivation.{is_below}
use Rattle.lie_math.specs.Polynomial.{variable, ◌*ᴾ◌}
use Rattle.lie_math.specs.Variables.{IsIn}
use Rattle.lie_math.specs.VectorField.{component}
use Rattle.lie_geometry.specs.Coordinates.{Space, coordinates_up_to, number}
use Rattle.lie_geometry.specs.Prolongation.{total_derivative}
use Rattle.lie_prolong.proofs.Absolutes.{component_in_z}
use Rattle.lie_jet.proofs.JetsBelow.{z_in}
use Rattle.lie_prolong.proofs.Multiples.{component_read, one_cause, sum_cause}
use Rattle.lie_prolong.proofs.coefficient.sum_of_multiples.Goals as goal
use Rattle.lie_prolong.proofs.coefficient.sum_of_multiples.Goals.{After-index-parts-from}

module _ (c : After-index-parts-from) where
  inside : c.loop-i.i < c.args.space.p
  inside = let p : c.space.inside.p ≡ c.args.space.p = ap (λ (s : Space). s.p) c.space.view_is in let h = c.loop-i-test.true in omega arith

  read : c.index-parts-from.result ≡ component c.args.field.now c.loop-i.i
  read = component_read c.args.field.now c.parts.result.now c.loop-i.i c.from.result c.index-parts-from.result c.parts.ensures c.from.ensures (let h = inside in let s = c.requires.field.size in omega arith) c.index-parts-from.is

pub multiple-requires-clause-low : goal.multiple-requires-clause-low
multiple-requires-clause-low c =
    let S = c.args.space in
    let small = c.requires.jet.space in
    subst (IsIn (is_below (coordinates_up_to S 11))) (sym (read c)) (z_in S small.some_p small.some_q 11 (component c.args.field.now c.loop-i.i) (component_in_z S c.args.field.now c.requires.field c.loop-i.i))

pub returns-in_err-part-clause-past : goal.returns-in_err-part-clause-past
returns-in_err-part-clause-past c =
    let k = (goal.at.returns-in_err-part-clause-past c).After-index-parts-from in
    let S = c.args.space in
    let p = err_from_is_err_and c.from_residual.result c.from_residual.ensures.1 in
    rw (p.1, p.2) (one_cause S c.requires.jet.space c.args.k c.requires.within c.args.jet.now.dep (take S.p c.args.jet.now.counts) (component c.args.field.now) _ c.loop-i.i c.jet_number-raised.result c.index-parts-from.result (inside k) (read k) (c.jet_number-raised.ensures.number ∙ ap (number S) c.raise_jet.ensures.raised) c.in_err-part.ensures.past)

pub returns-in_err-sum-clause-past : goal.returns-in_err-sum-clause-past
returns-in_err-sum-clause-past c =
    let k = (goal.at.returns-in_err-sum-clause-past c).After-index-parts-from in
    let S = c.args.space in
    let J = take S.p c.args.jet.now.counts in
    let p = err_from_is_err_and c.from_residual-in_err-sum.result c.from_residual-in_err-sum.ensures.1 in
    let made = c.in_ok-part.ensures.product ∙ ap₂ (λ q w. total_derivative S c.args.k q *ᴾ variable w) (read k) (c.jet_number-raised.ensures.number ∙ ap (number S) c.raise_jet.ensures.raised) in
    rw (p.1, p.2) (sum_cause S c.requires.jet.space c.args.k c.requires.within c.args.jet.now.dep J (component c.args.field.now) _ c.loop-i.i c.in_ok-part.part c.loop-i.sum (inside k) made c.loop-i.invariant c.in_err-sum.ensures.past)
