use Rattle.std.proofs.Common.{subst, ◌∙◌, arith}
use Rattle.lie_ring.proofs.Fronts.{all_taken}
use Rattle.lie_lin.specs.Validity.{AreLow}
use Rattle.std.specs.Prelude.{ℕ, ◌<◌}
use Rattle.lie_read_report.proofs.LowPolynomials.{every_copied}
use Rattle.lie_read_report.proofs.fields.is_monomial_below.Goals as goal

pub loop-pair-preserved : goal.loop-pair-preserved
loop-pair-preserved c = every_copied (λ (e : ℕ × ℕ). e.0 < c.args.bound) c.pairs-pair-items.result.now c.loop-pair.pair-index (0, 0) (omega arith) c.loop-pair.invariant (omega arith)

pub returns : goal.returns
returns c =
    subst (AreLow c.args.bound) (all_taken c.pairs-pair-items.result.now c.loop-pair.pair-index (omega (arith, c.loop-pair-test.false)) ∙ c.pairs-pair-items.ensures) c.loop-pair.invariant
