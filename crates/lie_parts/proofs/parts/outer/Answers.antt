use Rattle.std.proofs.Common.{◌≡◌, ◌++◌, ◌∷◌, [], cond, not, arith, sym, ap₂, subst, ◌∙◌, get_or, ℕ, List}
use Rattle.std.specs.Prelude.{IfOk}
use Rattle.lie_math.specs.Monomial.{Monomial}
use Rattle.lie_parts.specs.Parts.{is_inside}
use Rattle.lie_parts.proofs.Restricted.{pairs_more, made}
use Rattle.lie_parts.proofs.parts.outer.Goals as goal

pub loop-pair-preserved : goal.loop-pair-preserved
loop-pair-preserved c =
    let p : ℕ × ℕ = get_or {A = ℕ × ℕ} c.pairs-pair-items.result.now c.loop-pair.pair-index (0, 0) in
    c.in_ok-push_if.ensures
    ∙ ap₂ (λ (qs : List (ℕ × ℕ)) b. qs ++ cond (not b) (p ∷ []) []) c.loop-pair.invariant c.is_inside-is_inside.ensures
    ∙ sym (pairs_more (λ v. not (is_inside c.args.inside.now v)) c.pairs-pair-items.result.now c.loop-pair.pair-index (0, 0) c.loop-pair-test.true)

pub of_pairs-requires : goal.of_pairs-requires
of_pairs-requires c =
    (made (λ v. not (is_inside c.args.inside.now v)) c.args.mono.now c.pairs-pair-items.result.now c.as_slice.result.now c.loop-pair.pair-index c.pairs-pair-items.ensures (omega (arith, c.loop-pair-test.false)) (c.as_slice.ensures.value ∙ c.loop-pair.invariant)).0

pub returns : goal.returns
returns c =
    subst (λ (m : Monomial). IfOk c.of_pairs.result (λ (n : Monomial). n ≡ m))
    (made (λ v. not (is_inside c.args.inside.now v)) c.args.mono.now c.pairs-pair-items.result.now c.as_slice.result.now c.loop-pair.pair-index c.pairs-pair-items.ensures (omega (arith, c.loop-pair-test.false)) (c.as_slice.ensures.value ∙ c.loop-pair.invariant)).1 c.of_pairs.ensures
