-- Runs within a budget of steps: their actions, and how they end.
use Rattle.std.specs.Prelude.{◌≡◌, ℕ, zero, suc, ◌<◌, ◌≤◌, ◌⊎◌}
use Rattle.lie_math.specs.LinearSystem.{LinearSystem}
use Rattle.lie_systems.specs.ValidSystems.{IsValid}
use Rattle.lie_systems.specs.Works.{Limit, Made, IsWorkWithin, IsFirstPast}
use Rattle.lie_steps.specs.Laws.{HaveSameFields}
use Rattle.lie_steps.specs.Rules.{IsStuck, SearchMakes}
use Rattle.lie_steps.specs.Runs.{Run, Ends, RunMakes}
use Rattle.lie_lin.specs.Systems.{SpaceSystem}
use Rattle.lie_normal.specs.WorkCauses.{limit_of}
use Rattle.lie_ring.specs.declared.failures.PolyFail.{PolyFail}
use Rattle.lie_ring.specs.declared.failures.PolyFail.TheVariants as fails
use Rattle.lie_solve.specs.declared.runs.Stop.{Stop}
use Rattle.lie_solve.specs.declared.runs.Stop.TheVariants.{Past, Spent, NoMemory}

-- the actions of each step of the run from S, counted from 1, and after the last step of the budget those of the search for one more
abbrev pub StepMakes : LinearSystem → ℕ → ℕ → Made → Type 0
StepMakes S budget zero b = ⊥
StepMakes S budget (suc n) b = ((n < budget) × RunMakes S n b) ⊎ ((n ≡ budget) × ((T : LinearSystem) × Run S n T × SearchMakes T b))

-- all actions of the run are within the limits
abbrev pub IsRunWithin : LinearSystem → ℕ → Type 0
IsRunWithin S budget = (step : ℕ) → IsWorkWithin (StepMakes S budget step)

-- the run from S ends at T after n steps, which the budget has
pub record EndsWithin (S : LinearSystem) (budget : ℕ) (n : ℕ) (T : LinearSystem) : Type 0 where
  pub ends : Ends S n T
  pub affordable : n ≤ budget
  pub within : IsRunWithin S budget

-- the run comes to T by the steps of the budget, and a rule applies to it
pub record IsSpent (S : LinearSystem) (budget : ℕ) (T : LinearSystem) : Type 0 where
  pub run : Run S budget T
  pub more : ¬ (IsStuck T)
  pub within : IsRunWithin S budget

-- a system over the same variables, with the same fields
abbrev pub IsKept : SpaceSystem → SpaceSystem → Type 0
IsKept old new = (new.space ≡ old.space) × HaveSameFields old.system new.system

-- why a run has no end
abbrev pub IsStopped : SpaceSystem → ℕ → Stop → Type 0
IsStopped old budget (Past step what) = IsFirstPast (StepMakes old.system budget) step (limit_of what)
IsStopped old budget (Spent new) = IsSpent old.system budget new.system × IsKept old new
IsStopped old budget NoMemory = Unit {0}

-- the stop for a failure in the step of this number
abbrev pub stop_at : ℕ → PolyFail → Stop
stop_at step (fails.Past kind) = Past step kind
stop_at step fails.NoMemory = NoMemory

-- ---- the outcomes
-- of the outcomes of a run one holds at most: it ends within the budget, the budget is spent, or an action is past a limit
pub record OutcomesDiffer : Type 0 where
  pub ended_or_spent : (m budget n : ℕ) (S T U : LinearSystem) → IsValid m S → EndsWithin S budget n T → IsSpent S budget U → ⊥
  pub ended_or_past : (budget n step : ℕ) (S T : LinearSystem) (limit : Limit) → EndsWithin S budget n T
      → IsFirstPast (StepMakes S budget) step limit → ⊥
  pub spent_or_past : (budget step : ℕ) (S T : LinearSystem) (limit : Limit) → IsSpent S budget T
      → IsFirstPast (StepMakes S budget) step limit → ⊥
