use Rattle.std.specs.Prelude.{length}
use Rattle.std.proofs.Common.{refl, sym, arith, ap, ◌∙◌, true≢false}
use Rattle.lie_algebra.proofs.FiniteLists.{all_constant, one_more_constant, not_constant, no_equation}
use Rattle.lie_algebra.proofs.finite_systems.finite.Goals as goal

pub returns-then-equations-ne0 : goal.returns-then-equations-ne0
returns-then-equations-ne0 c = ((λ t. absurd (true≢false (sym t))), λ f. absurd (c.if-equations-ne0.true (ap length (c.equations.ensures ∙ f.solved))))

pub loop-unknown-preserved : goal.loop-unknown-preserved
loop-unknown-preserved c =
    one_more_constant c.unknowns-unknown-items.result.now c.loop-unknown.unknown-index (record { number = 0; vars = 0 }) (omega arith)
    (c.is_constant.ensures.0 c.if-not-is_constant.false) c.loop-unknown.invariant

pub returns-then-not-is_constant : goal.returns-then-not-is_constant
returns-then-not-is_constant c = (
  (λ t. absurd (true≢false (sym t))),
  λ f. absurd (not_constant c.args.system.now.system c.unknowns-unknown-items.result.now c.loop-unknown.unknown-index (record { number = 0; vars = 0 })
      c.unknowns-unknown-items.ensures (omega arith) (λ z. true≢false (sym (c.is_constant.ensures.1 z) ∙ c.if-not-is_constant.true)) f),
)

pub returns : goal.returns
returns c = (
  (λ t. all_constant c.args.system.now.system c.unknowns-unknown-items.result.now c.loop-unknown.unknown-index c.unknowns-unknown-items.ensures (omega arith)
      (sym c.equations.ensures ∙ no_equation c.equations.result.now c.if-equations-ne0.false) c.loop-unknown.invariant),
  λ f. refl,
)
