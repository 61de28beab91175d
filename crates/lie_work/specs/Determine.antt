-- The command `determine`: its text, why there is none, and which outcome is due.
use Rattle.std.specs.Prelude.{ℕ, ◌≡◌, ◌↔◌, List}
use Rattle.lie_math.specs.LinearSystem.{LinearSystem, Gives}
use Rattle.lie_math.specs.VectorField.{VectorField}
use Rattle.lie_geometry.specs.Invariance.{IsInvariant, IsFieldOn}
use Rattle.lie_geometry.specs.SolvedEquations.{SolvedEquation}
use Rattle.lie_ring.specs.declared.failures.PastKind.{PastKind}
use Rattle.lie_system.specs.Systems.{SystemRead}
use Rattle.lie_determining.specs.Openings.{IsOpeningSystem, IsOpeningWithin, IsOpeningPast}
use Rattle.lie_report.specs.Report.{report}
use Rattle.lie_work.specs.declared.outcome.Outcome.{Outcome}
use Rattle.lie_work.specs.declared.outcome.Outcome.TheVariants.{Done, Refused}
use Rattle.lie_work.specs.declared.outcome.Refusal.{Refusal}
use Rattle.lie_work.specs.declared.outcome.Refusal.TheVariants.{Past}
use Rattle.lie_work.specs.SolvedFile.{IsSolvedFile, IsFileRefusal}

-- the text is the report of the determining equations of the file's system: a field is invariant exactly where they give it
pub record IsReport (bytes text : List ℕ) : Type 0 where
  pub system : SystemRead
  pub rules : List SolvedEquation
  pub opening : LinearSystem
  pub solved : IsSolvedFile bytes system rules
  pub made : IsOpeningSystem system.space rules opening
  pub within : IsOpeningWithin system.space rules
  pub printed : text ≡ report system.space system.names opening
  pub meaning : (V : VectorField) → IsFieldOn system.space V → IsInvariant system.space rules V ↔ Gives opening V

-- an action of this step is past this limit; there is one step, the making of the determining equations
pub record IsReportPast (bytes : List ℕ) (step : ℕ) (what : PastKind) : Type 0 where
  pub system : SystemRead
  pub rules : List SolvedEquation
  pub solved : IsSolvedFile bytes system rules
  pub first : step ≡ 0
  pub past : IsOpeningPast system.space rules what

-- the actions of this step are not all within the limits
pub record IsReportWide (bytes : List ℕ) (step : ℕ) : Type 0 where
  pub system : SystemRead
  pub rules : List SolvedEquation
  pub solved : IsSolvedFile bytes system rules
  pub first : step ≡ 0
  pub wide : ¬ (IsOpeningWithin system.space rules)

-- no action is past a limit
pub record IsReportDue (bytes : List ℕ) : Type 0 where
  pub system : SystemRead
  pub rules : List SolvedEquation
  pub solved : IsSolvedFile bytes system rules
  pub none : (what : PastKind) → ¬ (IsOpeningPast system.space rules what)

-- why there is no report
pub data IsReportRefusal (bytes : List ℕ) : Refusal → Type 0 where
  no_file : (refusal : Refusal) → IsFileRefusal bytes refusal → IsReportRefusal bytes refusal
  past : (step : ℕ) (what : PastKind) → IsReportPast bytes step what → IsReportRefusal bytes (Past step what)

-- which outcome is due
pub data IsDetermineDue (bytes : List ℕ) : Outcome → Type 0 where
  due_file : (refusal : Refusal) → IsFileRefusal bytes refusal → IsDetermineDue bytes (Refused refusal)
  due_past : (step : ℕ) (what : PastKind) → IsReportWide bytes step → IsDetermineDue bytes (Refused (Past step what))
  due_report : IsReportDue bytes → IsDetermineDue bytes Done
