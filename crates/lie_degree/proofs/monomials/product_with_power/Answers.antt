use Rattle.std.proofs.Common.{ap, subst, ◌∙◌}
use Rattle.lie_math.specs.Monomial.{power_of, ◌·◌}
use Rattle.lie_ring.specs.Causes.{IsProductCause}
use Rattle.lie_ring.specs.declared.failures.PolyFail.TheVariants.{Past}
use Rattle.lie_degree.proofs.Loops.{product_not_past}
use Rattle.lie_degree.proofs.MonomialLists.{product_low}
use Rattle.lie_degree.proofs.monomials.product_with_power.Goals as goal

pub unreachable-requires : goal.unreachable-requires
unreachable-requires c =
    product_not_past c.in-Err-Past.field-0-0 (power_of c.args.var c.args.exponent · c.args.mono.now)
    (product_low c.args.var c.args.exponent c.args.mono.now c.requires)
    (subst (λ p. IsProductCause (Past c.in-Err-Past.field-0-0) (p · c.args.mono.now))
    (c.power.ensures ∙ ap (λ v. power_of v c.args.exponent) c.from.ensures)
    (rw c.in-Err-Past.field-0-is at c.in-Err-Past.ensures.high))
