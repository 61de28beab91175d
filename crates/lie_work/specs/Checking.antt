-- The command `check`: its text, why there is none, and which outcome is due.
use Rattle.std.specs.Prelude.{ℕ, ◌≡◌, ◌≤◌, ◌↔◌, List, length, codes}
use Rattle.lie_math.specs.VectorField.{VectorField, component}
use Rattle.lie_geometry.specs.Coordinates.{Space}
use Rattle.lie_geometry.specs.Invariance.{IsInvariant}
use Rattle.lie_geometry.specs.SolvedEquations.{SolvedEquation}
use Rattle.lie_ring.specs.declared.failures.PastKind.{PastKind}
use Rattle.lie_ring.specs.declared.failures.PolyFail.TheVariants as poly
use Rattle.lie_system.specs.Systems.{SystemRead}
use Rattle.lie_fieldtext.specs.FieldGrammar.{IsFieldText}
use Rattle.lie_fieldtext.specs.FieldFaults.{IsFieldFault}
use Rattle.lie_scan.specs.declared.fault.BadFile.{BadFile}
use Rattle.lie_scan.specs.declared.fault.ReadFail.{ReadFail}
use Rattle.lie_scan.specs.declared.fault.ReadFail.TheVariants as reads
use Rattle.lie_check.specs.Actions.{AreActionsWithin, IsActionCause}
use Rattle.lie_check.specs.Verdicts.{IsVerdict}
use Rattle.lie_check.specs.declared.verdict.Verdict.{Verdict}
use Rattle.lie_check.specs.declared.verdict.Verdict.TheVariants.{Yes, No}
use Rattle.lie_report.specs.CheckLines.{yes_line, no_line}
use Rattle.lie_work.specs.declared.source.Source.TheVariants.{Field}
use Rattle.lie_work.specs.declared.outcome.Outcome.{Outcome}
use Rattle.lie_work.specs.declared.outcome.Outcome.TheVariants.{Done, Refused}
use Rattle.lie_work.specs.declared.outcome.Refusal.{Refusal}
use Rattle.lie_work.specs.declared.outcome.Refusal.TheVariants.{Bad, Past}
use Rattle.lie_work.specs.SolvedFile.{IsSolvedFile, IsFileRefusal}
use Rattle.lie_scan.specs.Limits.{greatest_text_length}

-- ---- the field
-- the bytes are the text of a field of the system
pub record IsField (s : SystemRead) (bytes : List ℕ) (V : VectorField) : Type 0 where
  pub spelled : IsFieldText s.space s.names bytes V
  pub short : length bytes ≤ greatest_text_length

-- the bytes are the text of one field of the system at most, or they have one fault at most, and not both
pub record HasOneField (s : SystemRead) (bytes : List ℕ) : Type 0 where
  pub field : (V W : VectorField) → IsField s bytes V → IsField s bytes W → V ≡ W
  pub either : (V : VectorField) (f : ReadFail) → IsField s bytes V → IsFieldFault s.names bytes f → ⊥
  pub fault : (f g : ReadFail) → IsFieldFault s.names bytes f → IsFieldFault s.names bytes g → f ≡ g

-- ---- the text
-- whether a field is invariant, and where it is not the equation whose condition fails, and what remains of that
abbrev pub verdict_line : Space → List ℕ → Verdict → List ℕ
verdict_line S names Yes = yes_line
verdict_line S names (No k P) = no_line S names k P

-- the text is the line of the check of a field with the file's system, which is `yes` exactly where the field is invariant
pub record IsCheck (bytes field text : List ℕ) : Type 0 where
  pub system : SystemRead
  pub rules : List SolvedEquation
  pub read : VectorField
  pub verdict : Verdict
  pub solved : IsSolvedFile bytes system rules
  pub is_field : IsField system field read
  pub found : IsVerdict system.space rules (component read) verdict
  pub within : AreActionsWithin system.space rules (component read)
  pub printed : text ≡ verdict_line system.space system.names verdict
  pub meaning : (text ≡ codes "yes\n") ↔ IsInvariant system.space rules read

-- ---- why there is none, and what is due
-- an action of the check of a field is past this limit
abbrev pub IsActionPast : Space → List SolvedEquation → VectorField → PastKind → Type 0
IsActionPast S rs V what = IsActionCause S rs (component V) (poly.Past what)

-- an action of this step is past this limit; there is one step, the check
pub record IsCheckPast (bytes field : List ℕ) (step : ℕ) (what : PastKind) : Type 0 where
  pub system : SystemRead
  pub rules : List SolvedEquation
  pub read : VectorField
  pub solved : IsSolvedFile bytes system rules
  pub is_field : IsField system field read
  pub first : step ≡ 0
  pub past : IsActionPast system.space rules read what

-- the actions of this step are not all within the limits
pub record IsCheckWide (bytes field : List ℕ) (step : ℕ) : Type 0 where
  pub system : SystemRead
  pub rules : List SolvedEquation
  pub read : VectorField
  pub solved : IsSolvedFile bytes system rules
  pub is_field : IsField system field read
  pub first : step ≡ 0
  pub wide : ¬ (AreActionsWithin system.space rules (component read))

-- no action is past a limit
pub record IsLineDue (bytes field : List ℕ) : Type 0 where
  pub system : SystemRead
  pub rules : List SolvedEquation
  pub read : VectorField
  pub solved : IsSolvedFile bytes system rules
  pub is_field : IsField system field read
  pub none : (what : PastKind) → ¬ (IsActionPast system.space rules read what)

-- this is the first fault of the text of the field
pub record IsBadField (bytes field : List ℕ) (bad : BadFile) : Type 0 where
  pub system : SystemRead
  pub rules : List SolvedEquation
  pub solved : IsSolvedFile bytes system rules
  pub fault : IsFieldFault system.names field (reads.Bad bad)

-- why there is no line
pub data IsCheckRefusal (bytes field : List ℕ) : Refusal → Type 0 where
  no_file : (refusal : Refusal) → IsFileRefusal bytes refusal → IsCheckRefusal bytes field refusal
  no_field : (bad : BadFile) → IsBadField bytes field bad → IsCheckRefusal bytes field (Bad Field bad)
  past : (step : ℕ) (what : PastKind) → IsCheckPast bytes field step what → IsCheckRefusal bytes field (Past step what)

-- which outcome is due
pub data IsCheckDue (bytes field : List ℕ) : Outcome → Type 0 where
  due_file : (refusal : Refusal) → IsFileRefusal bytes refusal → IsCheckDue bytes field (Refused refusal)
  due_field : (bad : BadFile) → IsBadField bytes field bad → IsCheckDue bytes field (Refused (Bad Field bad))
  due_past : (step : ℕ) (what : PastKind) → IsCheckWide bytes field step → IsCheckDue bytes field (Refused (Past step what))
  due_line : IsLineDue bytes field → IsCheckDue bytes field Done
