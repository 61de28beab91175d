use Rattle.std.proofs.Common.{arith, ◌≡◌, ◌-◌, ◌++◌, sym, ap, ap₂, subst, ◌∙◌, get_or}
use Rattle.std.specs.Prelude.{ℕ, IfOk}
use Rattle.lie_math.specs.Monomial.{Monomial, exponent}
use Rattle.lie_lin.specs.Powers.{power_unless_zero}
use Rattle.lie_lin.proofs.PowerLists.{changed_more, made}
use Rattle.lie_lin.proofs.factors.without_factor.Goals as goal

pub loop-pair-preserved : goal.loop-pair-preserved
loop-pair-preserved c =
    c.in_ok-push_power.ensures
    ∙ ap₂ (λ qs e. qs ++ power_unless_zero (get_or {A = ℕ × ℕ} c.pairs-pair-items.result.now c.loop-pair.pair-index (0, 0)).0 e) c.loop-pair.invariant
    (c.saturating_sub-exponent.ensures ∙ ap (λ n. (get_or {A = ℕ × ℕ} c.pairs-pair-items.result.now c.loop-pair.pair-index (0, 0)).1 - n) c.exponent.ensures)
    ∙ sym (changed_more (λ v e. e - exponent c.args.factor.now v) c.pairs-pair-items.result.now c.loop-pair.pair-index (0, 0) c.loop-pair-test.true)

pub of_pairs-requires : goal.of_pairs-requires
of_pairs-requires c =
    (made (λ v e. e - exponent c.args.factor.now v) c.args.mono.now c.pairs-pair-items.result.now c.as_slice.result.now c.loop-pair.pair-index c.pairs-pair-items.ensures (omega (arith, c.loop-pair-test.false)) (c.as_slice.ensures.value ∙ c.loop-pair.invariant)).0

pub returns : goal.returns
returns c =
    subst (λ (m : Monomial). IfOk c.of_pairs.result (λ (n : Monomial). n ≡ m))
    (made (λ v e. e - exponent c.args.factor.now v) c.args.mono.now c.pairs-pair-items.result.now c.as_slice.result.now c.loop-pair.pair-index c.pairs-pair-items.ensures (omega (arith, c.loop-pair-test.false)) (c.as_slice.ensures.value ∙ c.loop-pair.invariant)).1 c.of_pairs.ensures
