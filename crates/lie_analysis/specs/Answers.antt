-- How an analysis within a budget is answered.
use Rattle.std.specs.Prelude.{◌≡◌, ℕ, ◌+◌, ◌<◌, ◌≤◌, List, Option}
use Rattle.lie_math.specs.LinearSystem.{LinearSystem}
use Rattle.lie_geometry.specs.Coordinates.{Space}
use Rattle.lie_geometry.specs.SolvedEquations.{SolvedEquation}
use Rattle.lie_systems.specs.Works.{Made, IsWorkWithin, IsFirstPast}
use Rattle.lie_steps.specs.Rules.{IsStuck}
use Rattle.lie_steps.specs.Runs.{Run, IsFinite}
use Rattle.lie_normal.specs.WorkCauses.{limit_of}
use Rattle.lie_ring.specs.declared.failures.PolyFail.{PolyFail}
use Rattle.lie_ring.specs.declared.failures.PolyFail.TheVariants as fails
use Rattle.lie_determining.specs.Openings.{IsOpeningSystem}
use Rattle.lie_solve.specs.declared.runs.Stop.{Stop}
use Rattle.lie_solve.specs.declared.runs.Stop.TheVariants as stops
use Rattle.lie_report.specs.Reports.{Found}
use Rattle.lie_analysis.specs.Analyses.{IsAnalysis}
use Rattle.lie_analysis.specs.Works.{AlgebraMakes, AnalysisMakes, IsAnalysisWithin}
use Rattle.lie_analysis.specs.declared.analysis.Unfinished.{Unfinished}
use Rattle.lie_analysis.specs.declared.analysis.Unfinished.TheVariants.{Past, Spent, NoMemory}

-- the analysis by a run that the budget has, and no action is past a limit
pub record IsAnalysed (S : Space) (rs : List SolvedEquation) (budget : ℕ) (T : LinearSystem) (found : Option Found) : Type 0 where
  pub steps : ℕ
  pub affordable : steps ≤ budget
  pub analysis : IsAnalysis S rs steps T found
  pub within : IsAnalysisWithin S rs budget

-- the steps of the budget lead from an opening system to one to which a rule applies, and no action is past a limit
pub record IsBudgetSpent (S : Space) (rs : List SolvedEquation) (budget : ℕ) : Type 0 where
  pub opening : LinearSystem
  pub opened : IsOpeningSystem S rs opening
  pub last : LinearSystem
  pub run : Run opening budget last
  pub more : ¬ (IsStuck last)
  pub within : IsAnalysisWithin S rs budget

-- why an analysis has no end
abbrev pub IsUnfinished : Space → List SolvedEquation → ℕ → Unfinished → Type 0
IsUnfinished S rs budget (Past step what) = IsFirstPast (AnalysisMakes S rs budget) step (limit_of what)
IsUnfinished S rs budget Spent = IsBudgetSpent S rs budget
IsUnfinished S rs budget NoMemory = Unit {0}

-- of the algebra of the end U of a run of so many steps
abbrev pub IsAlgebraCause : Space → LinearSystem → ℕ → Unfinished → Type 0
IsAlgebraCause S U steps (Past step what) =
    IsFinite U × ((k : ℕ) × (step ≡ steps + 2 + k) × IsFirstPast (AlgebraMakes S U) k (limit_of what))
IsAlgebraCause S U steps Spent = ⊥
IsAlgebraCause S U steps NoMemory = Unit {0}

-- the answer for a failure in the step of this number
abbrev pub unfinished_at : ℕ → PolyFail → Unfinished
unfinished_at step (fails.Past kind) = Past step kind
unfinished_at step fails.NoMemory = NoMemory

-- the answer where the run has no end
abbrev pub unfinished_run : Stop → Unfinished
unfinished_run (stops.Past step what) = Past step what
unfinished_run (stops.Spent system) = Spent
unfinished_run stops.NoMemory = NoMemory

-- ---- which answer is due: the end, where no action is past a limit and the budget is not spent; that the budget is spent; or the first
-- step with an action past a limit
pub record IsEndDue (S : Space) (rs : List SolvedEquation) (budget : ℕ) : Type 0 where
  pub within : IsAnalysisWithin S rs budget
  pub unspent : ¬ (IsBudgetSpent S rs budget)

-- of works done one after the other, this one is the first that is not within the limits
pub record IsFirstWide (makes : ℕ → Made → Type 0) (step : ℕ) : Type 0 where
  pub before : (k : ℕ) → k < step → IsWorkWithin (makes k)
  pub wide : ¬ (IsWorkWithin (makes step))
