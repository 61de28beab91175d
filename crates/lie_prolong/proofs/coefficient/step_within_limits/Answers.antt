use Rattle.std.proofs.Common.{take}
use Rattle.lie_math.specs.Limits.{absolute}
use Rattle.lie_math.specs.Polynomial.{◌+ᴾ◌}
use Rattle.lie_math.specs.VectorField.{component}
use Rattle.lie_geometry.specs.Prolongation.{total_derivative}
use Rattle.lie_ring.specs.declared.failures.PolyFail.TheVariants.{Past}
use Rattle.lie_jet.proofs.Absolutes.{within_starved}
use Rattle.lie_prolong.specs.Bulks.{multiples}
use Rattle.lie_prolong.proofs.coefficient.step_within_limits.Goals as goal

pub unreachable-requires : goal.unreachable-requires
unreachable-requires c =
    let S = c.args.space in
    within_starved (Past c.in-Err-Past.field-0-0) (total_derivative S c.args.k (absolute c.args.before.now) +ᴾ multiples S (λ i. absolute (component c.args.field.now i)) c.args.k c.args.jet.now.dep (take S.p c.args.jet.now.counts)) c.requires.limits
    (rw c.in-Err-Past.field-0-is at c.in-Err-Past.ensures.past)
