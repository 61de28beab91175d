-- The command `degree`: its text, why there is none, and which outcome is due.
use Rattle.std.specs.Prelude.{ℕ, ◌≡◌, List}
use Rattle.lie_math.specs.VectorField.{VectorField}
use Rattle.lie_geometry.specs.SolvedEquations.{SolvedEquation}
use Rattle.lie_systems.specs.Works.{IsFirstPast}
use Rattle.lie_ring.specs.declared.failures.PastKind.{PastKind}
use Rattle.lie_reduce.specs.Kinds.{limit_of}
use Rattle.lie_system.specs.Systems.{SystemRead}
use Rattle.lie_report.specs.Reports.{degree}
use Rattle.lie_report.specs.Report.{report_text}
use Rattle.lie_degree.specs.DegreeBases.{IsDegreeBasis}
use Rattle.lie_degree.specs.Works.{DegreeMakes, IsDegreeWithin, IsFirstOutside}
use Rattle.lie_work.specs.declared.outcome.Outcome.{Outcome}
use Rattle.lie_work.specs.declared.outcome.Outcome.TheVariants.{Done, Refused}
use Rattle.lie_work.specs.declared.outcome.Refusal.{Refusal}
use Rattle.lie_work.specs.declared.outcome.Refusal.TheVariants.{Past}
use Rattle.lie_work.specs.SolvedFile.{IsSolvedFile, IsFileRefusal}

-- the text is the report of the reduced basis of all fields that meet the condition of invariance of the file's system and have no
-- component with a term of degree above d
pub record IsDegreeReport (bytes : List ℕ) (d : ℕ) (text : List ℕ) : Type 0 where
  pub system : SystemRead
  pub rules : List SolvedEquation
  pub basis : List VectorField
  pub solved : IsSolvedFile bytes system rules
  pub is_basis : IsDegreeBasis system.space rules d basis
  pub within : IsDegreeWithin system.space rules d
  pub printed : text ≡ report_text (degree (record { space = system.space; names = system.names }) d basis)

-- this step is the first with an action past a limit, and this one is passed there; the making of the determining equations is step 0,
-- and that of the basis step 1
pub record IsDegreePast (bytes : List ℕ) (d step : ℕ) (what : PastKind) : Type 0 where
  pub system : SystemRead
  pub rules : List SolvedEquation
  pub solved : IsSolvedFile bytes system rules
  pub past : IsFirstPast (DegreeMakes system.space rules d) step (limit_of what)

-- this step is the first whose actions are not all within the limits
pub record IsDegreeWide (bytes : List ℕ) (d step : ℕ) : Type 0 where
  pub system : SystemRead
  pub rules : List SolvedEquation
  pub solved : IsSolvedFile bytes system rules
  pub first : IsFirstOutside (DegreeMakes system.space rules d) step

-- no action is past a limit
pub record IsDegreeReportDue (bytes : List ℕ) (d : ℕ) : Type 0 where
  pub system : SystemRead
  pub rules : List SolvedEquation
  pub solved : IsSolvedFile bytes system rules
  pub within : IsDegreeWithin system.space rules d

-- why there is no report
pub data IsDegreeRefusal (bytes : List ℕ) (d : ℕ) : Refusal → Type 0 where
  no_file : (refusal : Refusal) → IsFileRefusal bytes refusal → IsDegreeRefusal bytes d refusal
  past : (step : ℕ) (what : PastKind) → IsDegreePast bytes d step what → IsDegreeRefusal bytes d (Past step what)

-- which outcome is due
pub data IsDegreeDue (bytes : List ℕ) (d : ℕ) : Outcome → Type 0 where
  due_file : (refusal : Refusal) → IsFileRefusal bytes refusal → IsDegreeDue bytes d (Refused refusal)
  due_past : (step : ℕ) (what : PastKind) → IsDegreeWide bytes d step → IsDegreeDue bytes d (Refused (Past step what))
  due_report : IsDegreeReportDue bytes d → IsDegreeDue bytes d Done
