-- The command `analyse`: its text, why there is none, and which outcome is due.
use Rattle.std.specs.Prelude.{ℕ, ◌≡◌, List, Option}
use Rattle.lie_math.specs.LinearSystem.{LinearSystem}
use Rattle.lie_geometry.specs.SolvedEquations.{SolvedEquation}
use Rattle.lie_systems.specs.Works.{IsFirstPast}
use Rattle.lie_ring.specs.declared.failures.PastKind.{PastKind}
use Rattle.lie_normal.specs.WorkCauses.{limit_of}
use Rattle.lie_system.specs.Systems.{SystemRead}
use Rattle.lie_report.specs.Reports.{Found, symmetries}
use Rattle.lie_report.specs.Report.{report_text}
use Rattle.lie_analysis.specs.Answers.{IsAnalysed, IsBudgetSpent, IsEndDue, IsFirstWide}
use Rattle.lie_analysis.specs.Symmetries.{IsSymmetries}
use Rattle.lie_analysis.specs.Works.{AnalysisMakes}
use Rattle.lie_work.specs.declared.outcome.Outcome.{Outcome}
use Rattle.lie_work.specs.declared.outcome.Outcome.TheVariants.{Done, Refused}
use Rattle.lie_work.specs.declared.outcome.Refusal.{Refusal}
use Rattle.lie_work.specs.declared.outcome.Refusal.TheVariants.{Past, Spent}
use Rattle.lie_work.specs.SolvedFile.{IsSolvedFile, IsFileRefusal}

-- the text is the report of the symmetries of the file's system: of a system that gives exactly the invariant fields, and to which no
-- rule applies; and where it is finite, of their reduced basis, with the combination of it that each commutator is
pub record IsSymmetriesReport (bytes : List ℕ) (budget : ℕ) (text : List ℕ) : Type 0 where
  pub system : SystemRead
  pub rules : List SolvedEquation
  pub told : LinearSystem
  pub found : Option Found
  pub solved : IsSolvedFile bytes system rules
  pub analysed : IsAnalysed system.space rules budget told found
  pub printed : text ≡ report_text (symmetries (record { space = system.space; names = system.names }) told found)
  pub meaning : IsSymmetries system.space rules told found

-- this step is the first with an action past a limit, and this one is passed there; the making of the determining equations is step 0,
-- then come the steps of the run, and then the basis and the commutators
pub record IsAnalysisPast (bytes : List ℕ) (budget step : ℕ) (what : PastKind) : Type 0 where
  pub system : SystemRead
  pub rules : List SolvedEquation
  pub solved : IsSolvedFile bytes system rules
  pub past : IsFirstPast (AnalysisMakes system.space rules budget) step (limit_of what)

-- this step is the first whose actions are not all within the limits
pub record IsAnalysisWide (bytes : List ℕ) (budget step : ℕ) : Type 0 where
  pub system : SystemRead
  pub rules : List SolvedEquation
  pub solved : IsSolvedFile bytes system rules
  pub first : IsFirstWide (AnalysisMakes system.space rules budget) step

-- after all steps of the budget a rule applies
pub record IsAnalysisSpent (bytes : List ℕ) (budget : ℕ) : Type 0 where
  pub system : SystemRead
  pub rules : List SolvedEquation
  pub solved : IsSolvedFile bytes system rules
  pub spent : IsBudgetSpent system.space rules budget

-- no action is past a limit, and the budget is not spent
pub record IsSymmetriesDue (bytes : List ℕ) (budget : ℕ) : Type 0 where
  pub system : SystemRead
  pub rules : List SolvedEquation
  pub solved : IsSolvedFile bytes system rules
  pub due : IsEndDue system.space rules budget

-- why there is no report
pub data IsAnalyseRefusal (bytes : List ℕ) (budget : ℕ) : Refusal → Type 0 where
  no_file : (refusal : Refusal) → IsFileRefusal bytes refusal → IsAnalyseRefusal bytes budget refusal
  past : (step : ℕ) (what : PastKind) → IsAnalysisPast bytes budget step what → IsAnalyseRefusal bytes budget (Past step what)
  spent : IsAnalysisSpent bytes budget → IsAnalyseRefusal bytes budget (Spent budget)

-- which outcome is due
pub data IsAnalyseDue (bytes : List ℕ) (budget : ℕ) : Outcome → Type 0 where
  due_file : (refusal : Refusal) → IsFileRefusal bytes refusal → IsAnalyseDue bytes budget (Refused refusal)
  due_past : (step : ℕ) (what : PastKind) → IsAnalysisWide bytes budget step → IsAnalyseDue bytes budget (Refused (Past step what))
  due_spent : IsAnalysisSpent bytes budget → IsAnalyseDue bytes budget (Refused (Spent budget))
  due_report : IsSymmetriesDue bytes budget → IsAnalyseDue bytes budget Done
