use Rattle.std.proofs.Common.{[], refl, subst, sym, get_or, take}
use Rattle.lie_math.specs.Counts.{order}
use Rattle.lie_math.specs.Limits.{IsWithinLimits}
use Rattle.lie_math.specs.VectorField.{component}
use Rattle.lie_geometry.specs.Coordinates.{Coordinate}
use Rattle.lie_prolong.specs.Bulks.{bulk_at}
use Rattle.lie_prolong.proofs.FieldBounds.{holds_below}
use Rattle.lie_jet.specs.JetLists.{AreJetsUpTo}
use Rattle.lie_jet.specs.Jets.{IsJet}
use Rattle.lie_jet.specs.declared.jet.Jet.{Jet}
use Rattle.lie_check.proofs.NumberedCoefficients.{jet_more, all_jets, listed_jet}
use Rattle.lie_check.proofs.coefficients.bounded_coefficients.Goals as goal
use Rattle.lie_check.proofs.coefficients.bounded_coefficients.Goals.{After-deref-jet-items}

jets : (c : After-deref-jet-items) → AreJetsUpTo c.args.space c.args.order c.deref-jet-items.result.now
jets c = subst (AreJetsUpTo c.args.space c.args.order) (sym c.deref-jet-items.ensures.value) c.in_ok-jets.ensures

pub push_bounded-requires-clause-jet : goal.push_bounded-requires-clause-jet
push_bounded-requires-clause-jet c = listed_jet c.args.space c.args.order c.deref-jet-items.result.now c.loop-jet.jet-index _ (jets (goal.at.push_bounded-requires-clause-jet c).After-deref-jet-items) c.requires.low c.loop-jet-test.true

pub push_bounded-requires-clause-limits : goal.push_bounded-requires-clause-limits
push_bounded-requires-clause-limits c =
    let S = c.args.space in
    let jet : Jet = get_or c.deref-jet-items.result.now c.loop-jet.jet-index (record { dep = 0; counts = [] }) in
    let is : IsJet S c.args.order jet = (jets (goal.at.push_bounded-requires-clause-limits c).After-deref-jet-items).jets c.loop-jet.jet-index _ c.loop-jet-test.true in
    holds_below S (λ (x : Coordinate). IsWithinLimits (bulk_at S (component c.args.field.now) x)) is.space (order (take S.p jet.counts)) c.args.order is.low c.requires.limits

pub loop-jet-preserved : goal.loop-jet-preserved
loop-jet-preserved c =
    jet_more c.args.space (component c.args.field.now) c.args.numbers.now c.args.order c.deref-jet-items.result.now (jets (goal.at.loop-jet-preserved c).After-deref-jet-items) c.loop-jet.jet-index _ (record { dep = 0; counts = [] }) _ c.loop-jet.made.items c.push_bounded.new.made.items c.loop-jet-test.true c.loop-jet.invariant refl refl c.in_ok-push_bounded.ensures

pub returns : goal.returns
returns c = all_jets c.args.space (component c.args.field.now) c.args.numbers.now c.args.order c.deref-jet-items.result.now (jets (goal.at.returns c).After-deref-jet-items) c.loop-jet.jet-index c.loop-jet.made.items c.loop-jet.auto.jet-index-end c.loop-jet-test.false c.loop-jet.invariant
