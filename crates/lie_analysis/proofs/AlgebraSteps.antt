-- The work of the algebra of a finite system: its basis, then its table.
use Rattle.std.specs.Prelude.{◌≡◌, ℕ, ◌+◌, ◌<◌, List}
use Rattle.std.proofs.Common.{subst, arith}
use Rattle.lie_math.specs.LinearSystem.{LinearSystem, Gives}
use Rattle.lie_math.specs.VectorField.{VectorField}
use Rattle.lie_geometry.specs.Coordinates.{Space}
use Rattle.lie_systems.specs.Works.{Limit, OnWidth, OnCoefficients, Made, IsMadeWithin, IsWorkWithin, IsWorkPast, IsFirstPast}
use Rattle.lie_spans.specs.Fields.{IsFieldBasis}
use Rattle.lie_steps.specs.Runs.{IsFinite}
use Rattle.lie_normal.specs.WorkCauses.{limit_of}
use Rattle.lie_ring.specs.declared.failures.PastKind.{PastKind}
use Rattle.lie_ring.specs.declared.failures.PastKind.TheVariants.{Coefficient, Exponent, Terms, Order, Unknowns, Width}
use Rattle.lie_ring.specs.declared.failures.PolyFail.{PolyFail}
use Rattle.lie_ring.specs.declared.failures.PolyFail.TheVariants.{Past, NoMemory}
use Rattle.lie_algebra.specs.BasisWork.{IsBasisWithin, IsBasisPast, IsBasisCause}
use Rattle.lie_algebra.specs.Laws.{SystemBasisIsUnique}
use Rattle.lie_brackets.specs.Causes.{IsWorkCause}
use Rattle.lie_brackets.specs.Tables.{TableMakes}
use Rattle.lie_analysis.specs.Answers.{IsAlgebraCause, unfinished_at}
use Rattle.lie_analysis.specs.Works.{AlgebraMakes, width, elimination, table}

module _ (S : Space) (U : LinearSystem) (steps : ℕ) (finite : IsFinite U) where
  -- ---- the basis
  first_past : (limit : Limit) → IsWorkPast (AlgebraMakes S U 0) limit → IsFirstPast (AlgebraMakes S U) 0 limit
  first_past limit p = record { before = λ k less. absurd (omega arith); past = p }

  past_at_basis : (kind : PastKind) → IsFirstPast (AlgebraMakes S U) 0 (limit_of kind) → (step : ℕ) → step ≡ steps + 2
      → IsFinite U × ((k : ℕ) × (step ≡ steps + 2 + k) × IsFirstPast (AlgebraMakes S U) k (limit_of kind))
  past_at_basis kind p step is = (finite, (0, omega arith, p))

  basis_past : (kind : PastKind) → IsBasisPast U kind → IsFirstPast (AlgebraMakes S U) 0 (limit_of kind)
  basis_past Width h = first_past OnWidth (h.0, width h.0 h.1, h.2)
  basis_past Coefficient h = first_past OnCoefficients ((h.1).0, elimination h.0 (h.1).0 (h.1).1, (h.1).2)
  basis_past Exponent h = absurd h
  basis_past Terms h = absurd h
  basis_past Order h = absurd h
  basis_past Unknowns h = absurd h

  pub basis_cause : (fail : PolyFail) (step : ℕ) → step ≡ steps + 2 → IsBasisCause fail U → IsAlgebraCause S U steps (unfinished_at step fail)
  basis_cause (Past kind) step is h = past_at_basis kind (basis_past kind h) step is
  basis_cause NoMemory step is h = tt

  -- ---- the table of a basis that is within its limits
  module _ (Vs : List VectorField) (basis : IsFieldBasis (S.p + S.q) (Gives U) Vs) (within : IsBasisWithin U) where
    basis_within : (k : ℕ) (b : Made) → AlgebraMakes S U k b → k < 1 → IsMadeWithin b
    basis_within k b (width c h) less = within.width b h
    basis_within k b (elimination w c h) less = within.numbers b h
    basis_within k b (table Ws is c h) less = absurd (omega arith)

    table_first : (limit : Limit) → IsWorkPast (TableMakes S Vs) limit → IsFirstPast (AlgebraMakes S U) 1 limit
    table_first limit p = record { before = λ k less b h. basis_within k b h less; past = (p.0, table Vs basis p.0 p.1, p.2) }

    past_at_table : (kind : PastKind) → IsWorkPast (TableMakes S Vs) (limit_of kind) → (step : ℕ) → step ≡ steps + 3
        → IsFinite U × ((k : ℕ) × (step ≡ steps + 2 + k) × IsFirstPast (AlgebraMakes S U) k (limit_of kind))
    past_at_table kind p step is = (finite, (1, omega arith, table_first (limit_of kind) p))

    table_past : (kind : PastKind) → IsWorkCause (Past kind) (TableMakes S Vs) → IsWorkPast (TableMakes S Vs) (limit_of kind)
    table_past Coefficient h = h
    table_past Exponent h = h
    table_past Terms h = h
    table_past Order h = absurd h
    table_past Unknowns h = absurd h
    table_past Width h = absurd h

    pub table_cause : (fail : PolyFail) (step : ℕ) → step ≡ steps + 3 → IsWorkCause fail (TableMakes S Vs)
        → IsAlgebraCause S U steps (unfinished_at step fail)
    table_cause (Past kind) step is h = past_at_table kind (table_past kind h) step is
    table_cause NoMemory step is h = tt

    pub algebra_within : SystemBasisIsUnique → IsWorkWithin (TableMakes S Vs) → (k : ℕ) → IsWorkWithin (AlgebraMakes S U k)
    algebra_within unique fits k b (width c h) = within.width b h
    algebra_within unique fits k b (elimination w c h) = within.numbers b h
    algebra_within unique fits k b (table Ws is c h) =
        fits b (subst (λ Xs. TableMakes S Xs b) (unique (S.p + S.q) U Ws Vs is basis) h)
