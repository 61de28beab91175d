-- The analysis of a solved system, from the answers of the calls that it makes.
use Rattle.std.specs.Prelude.{◌≡◌, ℕ, ◌+◌, List, Option, Result, Ok, Err, IfOk, OnOk}
use Rattle.std.proofs.Common.{refl, sym, subst, ◌∙◌, arith}
use Rattle.lie_math.specs.LinearSystem.{LinearSystem, Gives}
use Rattle.lie_math.specs.VectorField.{VectorField}
use Rattle.lie_geometry.specs.CoordinateLaws.{IsSpace}
use Rattle.lie_geometry.specs.Coordinates.{Space}
use Rattle.lie_geometry.specs.SolvedEquations.{SolvedEquation, IsSolved, HaveHighLeads}
use Rattle.lie_systems.specs.Works.{IsWorkWithin, IsMadePast, IsFirstPast}
use Rattle.lie_spans.specs.Fields.{IsFieldBasis}
use Rattle.lie_steps.specs.Runs.{IsFinite}
use Rattle.lie_ring.specs.declared.failures.PastKind.{PastKind}
use Rattle.lie_ring.specs.declared.failures.PastKind.TheVariants.{Coefficient, Exponent, Terms, Order, Unknowns, Width}
use Rattle.lie_ring.specs.declared.failures.PolyFail.{PolyFail}
use Rattle.lie_ring.specs.declared.failures.PolyFail.TheVariants as fails
use Rattle.lie_lin.specs.Systems.{SpaceSystem}
use Rattle.lie_normal.specs.WorkCauses.{limit_of}
use Rattle.lie_reduce.specs.Kinds as kinds
use Rattle.lie_determining.specs.Openings.{IsOpeningSystem, IsOpeningCause}
use Rattle.lie_solve.specs.Runs.{EndsWithin, IsKept, IsStopped}
use Rattle.lie_solve.specs.declared.runs.Stop.{Stop}
use Rattle.lie_solve.specs.declared.runs.Stop.TheVariants as stops
use Rattle.lie_brackets.specs.Tables.{IsClosed}
use Rattle.lie_report.specs.Reports.{Found}
use Rattle.lie_analysis.specs.declared.analysis.Unfinished.{Unfinished}
use Rattle.lie_analysis.specs.declared.analysis.Unfinished.TheVariants.{Past, Spent, NoMemory}
use Rattle.lie_analysis.specs.Analyses.{OpeningEnds, IsToldOf}
use Rattle.lie_analysis.specs.Answers.{IsAnalysed, IsUnfinished, IsAlgebraCause, unfinished_at, unfinished_run}
use Rattle.lie_analysis.specs.Laws.{AnalysisIsSymmetries, EndBasisIsClosed, WorkIsOfParts}
use Rattle.lie_analysis.specs.Symmetries.{IsSymmetries}
use Rattle.lie_analysis.specs.Works.{AlgebraMakes, AnalysisMakes, opening}

-- the limits of the two names are the same
same_limit : (kind : PastKind) → kinds.limit_of kind ≡ limit_of kind
same_limit Coefficient = refl
same_limit Exponent = refl
same_limit Terms = refl
same_limit Order = refl
same_limit Unknowns = refl
same_limit Width = refl

module _ (S : Space) (rs : List SolvedEquation) (budget : ℕ) where
  -- ---- the opening system is past a limit
  pub opening_cause : (fail : PolyFail) → IsOpeningCause S rs fail → IsUnfinished S rs budget (unfinished_at 0 fail)
  opening_cause (fails.Past kind) h = record {
    before = λ k less. absurd (omega arith);
    past = (h.0, opening h.0 h.1, subst (λ limit. IsMadePast limit h.0) (same_limit kind) h.2);
  }
  opening_cause fails.NoMemory h = tt

  module _ (made last : SpaceSystem) (on_space : made.space ≡ S) (parts : WorkIsOfParts S rs budget made.system) where
    -- ---- the run has no end
    pub run_cause : (stop : Stop) → IsStopped made budget stop → IsUnfinished S rs budget (unfinished_run stop)
    run_cause (stops.Past step what) h = parts.run_past step (limit_of what) h
    run_cause (stops.Spent new) h = parts.run_spent new.system h.0
    run_cause stops.NoMemory h = tt

    -- ---- the end of the run
    module _ (opened : IsOpeningSystem S rs made.system) (n : ℕ) (ends : EndsWithin made.system budget n last.system) (kept : IsKept made last) where
      space : last.space ≡ S
      space = kept.0 ∙ on_space

      opening_ends : OpeningEnds S rs n last.system
      opening_ends = record { opening = made.system; opened = opened; ends = ends.ends }

      pub closed : EndBasisIsClosed → IsSpace S → IsSolved rs → HaveHighLeads S rs → (Vs : List VectorField)
          → IsFieldBasis (last.space.p + last.space.q) (Gives last.system) Vs → IsClosed last.space Vs
      closed law is solved high =
          subst (λ L. (Vs : List VectorField) → IsFieldBasis (L.p + L.q) (Gives last.system) Vs → IsClosed L Vs) (sym space)
          (law S is rs solved high n last.system opening_ends)

      pub algebra_cause : (answer : Unfinished) → IsAlgebraCause last.space last.system n answer → IsUnfinished S rs budget answer
      algebra_cause (Past step what) h =
          subst (λ k. IsFirstPast (AnalysisMakes S rs budget) k (limit_of what)) (sym h.1.1)
          (parts.algebra_past n last.system ends h.0 h.1.0 (limit_of what)
          (subst (λ L. IsFirstPast (AlgebraMakes L last.system) h.1.0 (limit_of what)) space h.1.2))
      algebra_cause Spent h = absurd h
      algebra_cause NoMemory h = tt

      pub analysed : (T : LinearSystem) (found : Option Found) → IsToldOf last.space last.system T found
          → (IsFinite last.system → (k : ℕ) → IsWorkWithin (AlgebraMakes last.space last.system k)) → IsAnalysed S rs budget T found
      analysed T found told fits = record {
        steps = n;
        affordable = ends.affordable;
        analysis = record { last = last.system; ends = opening_ends; told = subst (λ L. IsToldOf L last.system T found) space told };
        within = parts.within n last.system ends
            (subst (λ L. IsFinite last.system → (k : ℕ) → IsWorkWithin (AlgebraMakes L last.system k)) space fits);
      }

      pub told_and_means : AnalysisIsSymmetries → IsSpace S → IsSolved rs → HaveHighLeads S rs → (T : LinearSystem) (found : Option Found)
          → IsToldOf last.space last.system T found → IsSymmetries S rs T found
      told_and_means law is solved high T found told =
          law S is rs solved high n T found
          (record { last = last.system; ends = opening_ends; told = subst (λ L. IsToldOf L last.system T found) space told })

-- what is told of a value, and what is said where there is one
pub both_told : {X E A : Type 0} {P Q : X → Type 0} (r : Result X E) → ((x : X) → P x → A → Q x) → IfOk r P → OnOk r A → IfOk r Q
both_told (Ok x) f h k = f x h k
both_told (Err e) f h k = tt
