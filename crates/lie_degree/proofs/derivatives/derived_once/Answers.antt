use Rattle.std.proofs.Common.{subst}
use Rattle.lie_math.specs.Limits.{absolute}
use Rattle.lie_math.specs.PartialDerivative.{partial}
use Rattle.lie_ring.specs.Causes.{IsCause}
use Rattle.lie_ring.specs.declared.failures.PolyFail.TheVariants.{Past}
use Rattle.lie_degree.proofs.SmallTerms.{small_not_past}
use Rattle.lie_degree.proofs.derivatives.derived_once.Goals as goal

pub unreachable-requires : goal.unreachable-requires
unreachable-requires c =
    small_not_past c.in-Err-Past.field-0-0 c.args.var c.args.small.now c.requires
    (subst (λ v. IsCause (Past c.in-Err-Past.field-0-0) (partial v (absolute c.args.small.now))) c.from.ensures
    (rw c.in-Err-Past.field-0-is at c.in-Err-Past.ensures.past))
