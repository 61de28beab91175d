use Rattle.std.proofs.Common.{◌≡◌, ◌∙◌, ◌++◌, ◌∷◌, [], List, ℕ, ap, filter, get_or, subst}
use Rattle.std.specs.Prelude.{IfOk}
use Rattle.lie_math.specs.Monomial.{Monomial}
use Rattle.lie_normal.proofs.Falling.{get_same}
use Rattle.lie_ring.proofs.Fronts.{all_taken}
use Rattle.lie_rules.proofs.VariableLeft.{other, filter_more, others_canonical, others_are}
use Rattle.lie_rules.proofs.powers.without_variable.Goals as goal

pub loop-pair-preserved : goal.loop-pair-preserved
loop-pair-preserved c =
    let p : ℕ × ℕ = get_or {A = ℕ × ℕ} c.pairs-pair-items.result.now c.loop-pair.pair-index (0, 0) in
    c.in_ok-push_other.ensures ∙ ap (λ (qs : List (ℕ × ℕ)). qs ++ filter (other c.args.var) (p ∷ [])) c.loop-pair.invariant
    ∙ filter_more (other c.args.var) c.pairs-pair-items.result.now c.loop-pair.pair-index p c.loop-pair-test.true
    (get_same {X = ℕ × ℕ} c.pairs-pair-items.result.now c.loop-pair.pair-index (0, 0) c.loop-pair-test.true)

pub of_pairs-requires : goal.of_pairs-requires
of_pairs-requires c =
    others_canonical c.args.var c.args.mono.now c.as_slice.result.now
    (c.as_slice.ensures.value ∙ c.loop-pair.invariant
    ∙ ap (filter (other c.args.var)) (all_taken c.pairs-pair-items.result.now c.loop-pair.pair-index c.loop-pair-test.false
    ∙ c.pairs-pair-items.ensures))

pub returns : goal.returns
returns c =
    subst (λ (m : Monomial). IfOk c.of_pairs.result (λ (n : Monomial). n ≡ m))
    (others_are c.args.var c.args.mono.now c.as_slice.result.now
    (c.as_slice.ensures.value ∙ c.loop-pair.invariant
    ∙ ap (filter (other c.args.var)) (all_taken c.pairs-pair-items.result.now c.loop-pair.pair-index c.loop-pair-test.false
    ∙ c.pairs-pair-items.ensures))) c.of_pairs.ensures
