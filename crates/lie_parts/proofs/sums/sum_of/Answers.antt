use Rattle.lie_systems.specs.Works.{AForm, OnCoefficients, OnExponents, OnTerms, OnOrders}
use Rattle.lie_systems.proofs.WorkLimits.{not_within_and_past}
use Rattle.lie_systems.specs.Bulk.{bulk}
use Rattle.lie_lin.specs.Forms.{triples_of}
use Rattle.lie_ring.specs.declared.failures.PastKind.TheVariants.{Coefficient, Exponent, Terms, Order, Unknowns, Width}
use Rattle.lie_form.specs.FormLimits.{IsFormPast}
use Rattle.lie_parts.proofs.sums.sum_of.Goals as goal

pub unreachable-requires : goal.unreachable-requires
unreachable-requires c =
    let B = AForm (bulk (triples_of c.args.triples.now)) in
    elim c.in-Err-Past.field-0-0 as (λ kind. IsFormPast kind (bulk (triples_of c.args.triples.now)) → ⊥) [
      | Coefficient ↦ not_within_and_past OnCoefficients B c.requires
      | Exponent ↦ not_within_and_past OnExponents B c.requires
      | Terms ↦ not_within_and_past OnTerms B c.requires
      | Order ↦ not_within_and_past OnOrders B c.requires
      | Unknowns ↦ (λ h. h)
      | Width ↦ (λ h. h)
    ] (rw c.in-Err-Past.field-0-is at c.in-Err-Past.ensures.past)
