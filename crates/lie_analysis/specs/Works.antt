-- The work of an analysis, by its steps.
use Rattle.std.specs.Prelude.{ℕ, ◌+◌, ◌≤◌, List}
use Rattle.lie_math.specs.LinearSystem.{LinearSystem, Gives}
use Rattle.lie_math.specs.VectorField.{VectorField}
use Rattle.lie_geometry.specs.Coordinates.{Space}
use Rattle.lie_geometry.specs.SolvedEquations.{SolvedEquation}
use Rattle.lie_systems.specs.Works.{Made, IsWorkWithin}
use Rattle.lie_spans.specs.Fields.{IsFieldBasis}
use Rattle.lie_steps.specs.Runs.{IsFinite}
use Rattle.lie_determining.specs.Openings.{OpeningMakes, IsOpeningSystem}
use Rattle.lie_solve.specs.Runs.{StepMakes}
use Rattle.lie_algebra.specs.BasisWork.{WidthMakes, EliminationMakes}
use Rattle.lie_brackets.specs.Tables.{TableMakes}
use Rattle.lie_analysis.specs.Analyses.{OpeningEnds}

-- what the actions make that give the algebra of a finite system: step 0 is the basis, first its width, and then the eliminations where
-- that is within its limits; step 1 is the table
pub data AlgebraMakes (S : Space) (U : LinearSystem) : ℕ → Made → Type 0 where
  width : (b : Made) → WidthMakes U b → AlgebraMakes S U 0 b
  elimination : IsWorkWithin (WidthMakes U) → (b : Made) → EliminationMakes U b → AlgebraMakes S U 0 b
  table : (Vs : List VectorField) → IsFieldBasis (S.p + S.q) (Gives U) Vs → (b : Made) → TableMakes S Vs b → AlgebraMakes S U 1 b

-- the run ends within the budget, after n steps, at the finite system U
pub record EndsFinite (S : Space) (rs : List SolvedEquation) (budget n : ℕ) (U : LinearSystem) : Type 0 where
  pub ends : OpeningEnds S rs n U
  pub affordable : n ≤ budget
  pub finite : IsFinite U

-- what the actions of a step make: step 0 is the making of the opening system; the steps of the run are counted from 1, the search for
-- one more included; where the run ends after n steps at a finite system, the basis is step n + 2, and the table step n + 3
pub data AnalysisMakes (S : Space) (rs : List SolvedEquation) (budget : ℕ) : ℕ → Made → Type 0 where
  opening : (b : Made) → OpeningMakes S rs b → AnalysisMakes S rs budget 0 b
  run : (T : LinearSystem) → IsOpeningSystem S rs T → (step : ℕ) (b : Made) → StepMakes T budget step b
      → AnalysisMakes S rs budget step b
  algebra : (n : ℕ) (U : LinearSystem) → EndsFinite S rs budget n U → (k : ℕ) (b : Made) → AlgebraMakes S U k b
      → AnalysisMakes S rs budget (n + 2 + k) b

-- no action is past a limit
abbrev pub IsAnalysisWithin : Space → List SolvedEquation → ℕ → Type 0
IsAnalysisWithin S rs budget = (step : ℕ) → IsWorkWithin (AnalysisMakes S rs budget step)
