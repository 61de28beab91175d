-- The work of a command on a file: what it makes of the bytes, one line a command.
use Rattle.std.specs.Prelude.{ℕ, ◌≡◌, ◌⊎◌, List}
use Rattle.std.specs.declared.result.Result.{Result}
use Rattle.std.specs.declared.result.Result.TheVariants.{Ok, Err}
use Rattle.lie_ring.specs.declared.failures.PastKind.{PastKind}
use Rattle.lie_work.specs.declared.outcome.Outcome.{Outcome}
use Rattle.lie_work.specs.declared.outcome.Outcome.TheVariants.{Done, Refused, Failed}
use Rattle.lie_work.specs.declared.outcome.Refusal.{Refusal}
use Rattle.lie_work.specs.declared.outcome.Refusal.TheVariants.{Past}
use Rattle.lie_work.specs.declared.outcome.Failure.TheVariants.{NoMemory, ReadFault, WriteFault}
use Rattle.lie_work.specs.declared.outcome.NoText.{NoText}
use Rattle.lie_work.specs.declared.command.FileCommand.TheVariants.{Determine, Check, Analyse, Degree}
use Rattle.lie_work.specs.Analyse.{IsSymmetriesReport, IsAnalyseRefusal, IsAnalyseDue}
use Rattle.lie_work.specs.Checking.{IsCheck, IsCheckRefusal, IsCheckDue}
use Rattle.lie_work.specs.Degree.{IsDegreeReport, IsDegreeRefusal, IsDegreeDue}
use Rattle.lie_work.specs.Determine.{IsReport, IsReportRefusal, IsDetermineDue}
use Rattle.lie_work.specs.Outcomes.{untold}
use Rattle.lie_work.specs.Commands.{AnyFileCommand}

-- the text is what the command puts for the bytes of its file
abbrev pub IsTextOf : AnyFileCommand → List ℕ → List ℕ → Type 0
IsTextOf Determine bytes text = IsReport bytes text
IsTextOf (Check field) bytes text = IsCheck bytes field text
IsTextOf (Analyse budget) bytes text = IsSymmetriesReport bytes budget text
IsTextOf (Degree d) bytes text = IsDegreeReport bytes d text

-- why it makes no text of the bytes
abbrev pub IsWorkRefusal : AnyFileCommand → List ℕ → Refusal → Type 0
IsWorkRefusal Determine bytes refusal = IsReportRefusal bytes refusal
IsWorkRefusal (Check field) bytes refusal = IsCheckRefusal bytes field refusal
IsWorkRefusal (Analyse budget) bytes refusal = IsAnalyseRefusal bytes budget refusal
IsWorkRefusal (Degree d) bytes refusal = IsDegreeRefusal bytes d refusal

-- which outcome is due for the bytes
abbrev pub IsWorkDue : AnyFileCommand → List ℕ → Outcome → Type 0
IsWorkDue Determine bytes due = IsDetermineDue bytes due
IsWorkDue (Check field) bytes due = IsCheckDue bytes field due
IsWorkDue (Analyse budget) bytes due = IsAnalyseDue bytes budget due
IsWorkDue (Degree d) bytes due = IsDegreeDue bytes d due

-- ---- the answer where an outcome is due
-- it is that outcome; of several limits that a step is past, any is told
abbrev pub IsAnswer : Outcome → Outcome → Type 0
IsAnswer (Refused (Past step what)) outcome = (kind : PastKind) × (outcome ≡ Refused (Past step kind))
IsAnswer due outcome = outcome ≡ due

-- it is answered, unless memory is wanting
abbrev pub IsAnswered : Outcome → Outcome → Type 0
IsAnswered due outcome = IsAnswer due outcome ⊎ (outcome ≡ Failed NoMemory)

-- or a file or the output fails
abbrev pub IsEnded : Outcome → Outcome → Type 0
IsEnded due outcome = IsAnswered due outcome ⊎ ((outcome ≡ Failed ReadFault) ⊎ (outcome ≡ Failed WriteFault))

-- where a text is made Done is due, and else an outcome that is answered
abbrev pub IsMade : {X : Type 0} → Outcome → Result X NoText → Type 0
IsMade due (Ok text) = due ≡ Done
IsMade due (Err none) = IsAnswered due (untold none)

-- ---- how the work on the bytes ends
-- done, refused for a cause of the bytes, or failed, but not at reading
pub data IsWorkOutcome (c : AnyFileCommand) (bytes : List ℕ) : Outcome → Type 0 where
  done : IsWorkOutcome c bytes Done
  refused : (refusal : Refusal) → IsWorkRefusal c bytes refusal → IsWorkOutcome c bytes (Refused refusal)
  no_memory : IsWorkOutcome c bytes (Failed NoMemory)
  write_fault : IsWorkOutcome c bytes (Failed WriteFault)
