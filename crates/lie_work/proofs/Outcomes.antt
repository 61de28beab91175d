-- What the outcome of the work on the bytes of a file says of the file, and of the streams.
use Rattle.std.specs.Prelude.{ℕ, ◌≡◌, ◌<◌, List, length, Some, None, IfSome, IsSomeAnd, IfErr, Result, Ok, Err}
use Rattle.std.proofs.Common.{refl, subst, arith, inl, inr}
use Rattle.std.specs.declared.option.Option.{Option}
use Rattle.lie_outer.specs.declared.sink.SinkFail.{SinkFail}
use Rattle.lie_outer.specs.declared.sink.SinkFail.TheVariants as sinks
use Rattle.lie_work.specs.declared.outcome.Outcome.{Outcome}
use Rattle.lie_work.specs.declared.outcome.Outcome.TheVariants.{Refused, Failed}
use Rattle.lie_work.specs.declared.outcome.Refusal.{Refusal}
use Rattle.lie_work.specs.declared.outcome.Refusal.TheVariants.{Bad}
use Rattle.lie_work.specs.declared.outcome.Failure.TheVariants.{ReadFault, WriteFault}
use Rattle.lie_work.specs.declared.source.Source.TheVariants.{File}
use Rattle.lie_work.specs.declared.command.FileCommand.TheVariants.{Determine, Check, Analyse, Degree}
use Rattle.lie_work.specs.Analyse as analyses
use Rattle.lie_work.specs.Causes.{put_outcome}
use Rattle.lie_work.specs.Checking as checks
use Rattle.lie_work.specs.Degree as degrees
use Rattle.lie_work.specs.Determine as determines
use Rattle.lie_work.specs.Outcomes.{IsRefusalOr, untold}
use Rattle.lie_work.specs.declared.outcome.NoText.{NoText}
use Rattle.lie_work.specs.declared.outcome.NoText.TheVariants as texts
use Rattle.lie_work.specs.SolvedFile.{IsFileRefusal, bad_file}
use Rattle.lie_work.specs.Commands.{AnyFileCommand}
use Rattle.lie_work.specs.Work.{IsWorkRefusal, IsWorkDue, IsAnswer, IsAnswered, IsEnded, IsWorkOutcome, done, refused, no_memory, write_fault}
use Rattle.lie_work.proofs.DueChecks.{file_of_check}
use Rattle.lie_work.proofs.DueDegrees.{file_of_degree}
use Rattle.lie_work.proofs.DueReports.{file_of_report}
use Rattle.lie_work.proofs.DueSymmetries.{file_of_symmetries}

-- ---- refusals of the file
pub file_refused : (c : AnyFileCommand) (bytes : List ℕ) (refusal : Refusal) → IsFileRefusal bytes refusal → IsWorkRefusal c bytes refusal
file_refused Determine bytes refusal h = determines.no_file refusal h
file_refused (Check field) bytes refusal h = checks.no_file refusal h
file_refused (Analyse budget) bytes refusal h = analyses.no_file refusal h
file_refused (Degree d) bytes refusal h = degrees.no_file refusal h

pub file_answered : (c : AnyFileCommand) (bytes : List ℕ) (found : Refusal) (due : Outcome) → IsFileRefusal bytes found → IsWorkDue c bytes due → IsAnswer due (Refused found)
file_answered Determine bytes found due h d = file_of_report bytes found due h d
file_answered (Check field) bytes found due h d = file_of_check bytes field found due h d
file_answered (Analyse budget) bytes found due h d = file_of_symmetries bytes budget found due h d
file_answered (Degree most) bytes found due h d = file_of_degree bytes most found due h d

pub file_is_work : (c : AnyFileCommand) (bytes : List ℕ) (none : NoText) → IsRefusalOr (IsFileRefusal bytes) none → IsRefusalOr (IsWorkRefusal c bytes) none
file_is_work c bytes (texts.Refused refusal) h = file_refused c bytes refusal h
file_is_work c bytes texts.NoMemory h = tt

pub file_made : (c : AnyFileCommand) (bytes : List ℕ) (none : NoText) (due : Outcome) → IsRefusalOr (IsFileRefusal bytes) none → IsWorkDue c bytes due → IsAnswered due (untold none)
file_made c bytes (texts.Refused refusal) due h d = inl (file_answered c bytes refusal due h d)
file_made c bytes texts.NoMemory due h d = inr refl

pub if_err : {X E : Type 0} (result : Result X E) (P Q : E → Type 0) → ((e : E) → P e → Q e) → IfErr result P → IfErr result Q
if_err (Ok x) P Q f h = tt
if_err (Err e) P Q f h = f e h

-- ---- a text that is put
pub put_is_outcome : {T : Type 0} (c : AnyFileCommand) (bytes : List ℕ) (put : Result T SinkFail) → IsWorkOutcome c bytes (put_outcome put)
put_is_outcome c bytes (Ok taken) = done
put_is_outcome c bytes (Err sinks.Failed) = write_fault
put_is_outcome c bytes (Err sinks.NoMemory) = no_memory
