use Rattle.std.proofs.Common.{ap, sym, subst, arith, ◌∙◌, ◌≡◌, ◌≤◌, ◌<◌, [], take, drop, slice_index}
use Rattle.lie_geometry.specs.Coordinates.{Space}
use Rattle.lie_geometry.specs.Prolongation.{indices_from}
use Rattle.lie_jet.proofs.LastIndex.{no_more, fewer_before, lowered_before}
use Rattle.lie_jet.proofs.lowering.lowered.Goals as goal

pub loop-i-init : goal.loop-i-init
loop-i-init c =
    let p : c.space.inside.p ≡ c.args.space.p = ap (λ (s : Space). s.p) c.space.view_is in
    (omega arith, subst (λ n. indices_from n (drop n (take c.args.space.p c.args.jet.now.counts)) ≡ []) (sym p) (no_more c.args.space.p c.args.jet.now.counts))

pub bounds-jet-from : goal.bounds-jet-from
bounds-jet-from c =
    let h : c.loop-i.i ≤ c.args.space.p = c.loop-i.invariant.0 in
    let few : c.args.space.p ≤ 4 = c.requires.space.few_p in
    omega arith

pub loop-i-preserved : goal.loop-i-preserved
loop-i-preserved c =
    let h : c.loop-i.i ≤ c.args.space.p = c.loop-i.invariant.0 in
    (omega arith, fewer_before c.args.space.p c.loop-i.i c.from.result c.args.jet.now.counts c.loop-i-test.true h c.from.ensures c.loop-i.invariant.1 c.if-jet-from-gt0.false)

pub returns-then-jet-from-gt0 : goal.returns-then-jet-from-gt0
returns-then-jet-from-gt0 c =
    let same : c.from-then-jet-from-gt0.result ≡ c.from.result = c.from-then-jet-from-gt0.ensures ∙ sym c.from.ensures in
    lowered_before c.args.space c.args.jet.now c.loop-i.i c.from-then-jet-from-gt0.result c.requires c.loop-i-test.true c.loop-i.invariant.0 c.from-then-jet-from-gt0.ensures c.loop-i.invariant.1 (subst (λ n. 0 < slice_index c.args.jet.now.counts n) (sym same) c.if-jet-from-gt0.true)

pub returns : goal.returns
returns c =
    let none : c.loop-i.i ≡ 0 = (let h = c.loop-i-test.false in omega arith) in
    subst (λ n. indices_from n (drop n (take c.args.space.p c.args.jet.now.counts)) ≡ []) none c.loop-i.invariant.1
