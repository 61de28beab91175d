-- The statements of laws that are longer than a line.
use Rattle.std.specs.Prelude.{◌≡◌, ℕ, ◌+◌, ◌≤◌, List, Option}
use Rattle.lie_math.specs.LinearSystem.{LinearSystem, Gives}
use Rattle.lie_math.specs.VectorField.{VectorField}
use Rattle.lie_geometry.specs.CoordinateLaws.{IsSpace}
use Rattle.lie_geometry.specs.Coordinates.{Space}
use Rattle.lie_geometry.specs.SolvedEquations.{SolvedEquation, IsSolved, HaveHighLeads}
use Rattle.lie_systems.specs.Works.{Limit, IsWorkWithin, IsFirstPast}
use Rattle.lie_spans.specs.Fields.{IsFieldBasis}
use Rattle.lie_steps.specs.Runs.{IsFinite}
use Rattle.lie_determining.specs.Openings.{IsOpeningSystem, IsOpeningWithin}
use Rattle.lie_solve.specs.Runs.{StepMakes, EndsWithin, IsSpent}
use Rattle.lie_brackets.specs.Tables.{IsClosed}
use Rattle.lie_report.specs.Reports.{Found}
use Rattle.lie_analysis.specs.Analyses.{OpeningEnds, IsAnalysis}
use Rattle.lie_analysis.specs.Answers.{IsBudgetSpent, IsEndDue, IsFirstWide}
use Rattle.lie_analysis.specs.Symmetries.{IsSymmetries}
use Rattle.lie_analysis.specs.Works.{AlgebraMakes, AnalysisMakes, IsAnalysisWithin}

-- what an analysis of solved equations tells are their symmetries
abbrev pub AnalysisIsSymmetries : Type 0
AnalysisIsSymmetries = (S : Space) → IsSpace S → (rs : List SolvedEquation) → IsSolved rs → HaveHighLeads S rs
    → (n : ℕ) (T : LinearSystem) (found : Option Found) → IsAnalysis S rs n T found → IsSymmetries S rs T found

-- the reduced basis of the fields that the end of the run gives is closed under the bracket
abbrev pub EndBasisIsClosed : Type 0
EndBasisIsClosed = (S : Space) → IsSpace S → (rs : List SolvedEquation) → IsSolved rs → HaveHighLeads S rs
    → (n : ℕ) (U : LinearSystem) → OpeningEnds S rs n U
    → (Vs : List VectorField) → IsFieldBasis (S.p + S.q) (Gives U) Vs → IsClosed S Vs

-- equations have one analysis at most, by a run of one length
abbrev pub AnalysisIsUnique : Type 0
AnalysisIsUnique = (S : Space) → IsSpace S → (rs : List SolvedEquation) (n k : ℕ) (T U : LinearSystem) (found other : Option Found)
    → IsAnalysis S rs n T found → IsAnalysis S rs k U other → (n ≡ k) × (T ≡ U) × (found ≡ other)

-- of the answers of an analysis one holds at most
pub record AnswersDiffer : Type 0 where
  pub within_or_past : (S : Space) (rs : List SolvedEquation) (budget step : ℕ) (limit : Limit) → IsAnalysisWithin S rs budget
      → ¬ (IsFirstPast (AnalysisMakes S rs budget) step limit)
  pub ended_or_spent : (S : Space) → IsSpace S → (rs : List SolvedEquation) (budget n : ℕ) (U : LinearSystem) → OpeningEnds S rs n U
      → n ≤ budget → ¬ (IsBudgetSpent S rs budget)
  pub one_step : (S : Space) (rs : List SolvedEquation) (budget step first : ℕ) (limit : Limit)
      → IsFirstPast (AnalysisMakes S rs budget) step limit → IsFirstWide (AnalysisMakes S rs budget) first → step ≡ first

-- one of them is due: not none is
abbrev pub SomeAnswerIsDue : Type 0
SomeAnswerIsDue = (S : Space) (rs : List SolvedEquation) (budget : ℕ) → ¬ (IsEndDue S rs budget) → ¬ (IsBudgetSpent S rs budget)
    → ((step : ℕ) → ¬ (IsFirstWide (AnalysisMakes S rs budget) step)) → ⊥

-- the work of an analysis is that of the opening system, then that of the run from it, and that of the algebra of its end
pub record WorkIsOfParts (S : Space) (rs : List SolvedEquation) (budget : ℕ) (T : LinearSystem) : Type 0 where
  pub run_past : (step : ℕ) (limit : Limit) → IsFirstPast (StepMakes T budget) step limit
      → IsFirstPast (AnalysisMakes S rs budget) step limit
  pub run_spent : (U : LinearSystem) → IsSpent T budget U → IsBudgetSpent S rs budget
  pub algebra_past : (n : ℕ) (U : LinearSystem) → EndsWithin T budget n U → IsFinite U → (k : ℕ) (limit : Limit)
      → IsFirstPast (AlgebraMakes S U) k limit → IsFirstPast (AnalysisMakes S rs budget) (n + 2 + k) limit
  pub within : (n : ℕ) (U : LinearSystem) → EndsWithin T budget n U → (IsFinite U → (k : ℕ) → IsWorkWithin (AlgebraMakes S U k))
      → IsAnalysisWithin S rs budget

abbrev pub WorksAreOfParts : Type 0
WorksAreOfParts = (S : Space) → IsSpace S → (rs : List SolvedEquation) (T : LinearSystem) → IsOpeningSystem S rs T → IsOpeningWithin S rs
    → (budget : ℕ) → WorkIsOfParts S rs budget T
