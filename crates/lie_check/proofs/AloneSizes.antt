-- The reduction of one polynomial with absolute values is its bulk.
use Rattle.std.specs.Prelude.{◌≡◌, [], ◌∷◌, List}
use Rattle.std.proofs.Common.{ap, ap₂, ◌∙◌, subst}
use mathlib.Core.Path.{fun_ext}
use Rattle.lie_math.specs.Limits.{absolute}
use Rattle.lie_math.specs.Polynomial.{WholePolynomial}
use Rattle.lie_math.specs.Powers.{degree_in}
use Rattle.lie_geometry.specs.SolvedEquations.{SolvedEquation, reduced_by, reduced}
use Rattle.lie_ring.specs.Causes.{IsCause}
use Rattle.lie_ring.specs.declared.failures.PolyFail.{PolyFail}
use Rattle.lie_reduce.specs.Bulks.{absolute_equations, reduction_bulk, reduction_bulk_by}
use Rattle.lie_reduce.specs.Reductions.{greatest_exponent, IsReductionCause}
use Rattle.lie_reduce.proofs.AbsoluteRules.{bulk_of_sizes}
use Rattle.lie_reduce.proofs.GreatestExponents.{degree_absolute}
use Rattle.lie_reduce.proofs.ReductionSteps.{alone_cause, alone_value}

pub sized_cause : (rs qs : List SolvedEquation) (P Q : WholePolynomial) (fail : PolyFail) → qs ≡ absolute_equations rs → Q ≡ absolute P → IsReductionCause qs (Q ∷ []) fail → IsCause fail (reduction_bulk rs P)
sized_cause rs qs P Q fail e f h =
    subst (IsCause fail) (ap₂ reduction_bulk e f ∙ ap (λ d. reduction_bulk_by (absolute_equations rs) d (absolute P)) (fun_ext (λ w. degree_absolute w P)) ∙ bulk_of_sizes rs (λ w. degree_in w P) P) (alone_cause qs Q fail h)

pub sized_value : (rs qs : List SolvedEquation) (P Q : WholePolynomial) → qs ≡ absolute_equations rs → Q ≡ absolute P → reduced_by qs (greatest_exponent (Q ∷ [])) Q ≡ reduction_bulk rs P
sized_value rs qs P Q e f = alone_value qs Q ∙ ap₂ reduced e f ∙ ap (λ d. reduced_by (absolute_equations rs) d (absolute P)) (fun_ext (λ w. degree_absolute w P))
