-- What a call says of the words, of what they name, and of the streams.
use Rattle.std.specs.Prelude.{ℕ, ◌≡◌, ◌≢◌, ◌+◌, ◌⊎◌, List, Some, None}
use Rattle.std.specs.Io.KnownBytes.{Appends}
use Rattle.std.specs.declared.option.Option.{Option}
use Rattle.lie_outer.specs.Causes.{Rose, next_count}
use Rattle.lie_outer.specs.Sink.{AppendsFront}
use Rattle.lie_outer.specs.declared.rows.Row.{Row}
use Rattle.lie_status.specs.declared.status.Status.{Status}
use Rattle.lie_status.specs.declared.status.Status.TheVariants as statuses
use Rattle.lie_work.specs.declared.outcome.Outcome.{Outcome}
use Rattle.lie_work.specs.declared.outcome.Outcome.TheVariants.{Done, Refused, Failed}
use Rattle.lie_work.specs.declared.outcome.Refusal.TheVariants.{Usage}
use Rattle.lie_work.specs.declared.outcome.Failure.TheVariants.{NoMemory, ReadFault, WriteFault, KeeperFault, LinkFault}
use Rattle.lie_app.specs.declared.words.Command.TheVariants.{OnFile, OnDesk, Sample, OnLink}
use Rattle.lie_app.specs.OnFile.{IsFileOutput, HasFileCause, IsDueOnFile}
use Rattle.lie_app.specs.OnLink.{served_line, HasServiceCause, LeavesService}
use Rattle.lie_outer.specs.Link.{Line}
use Rattle.lie_serve.specs.Replies.{Kept}
use Rattle.lie_app.specs.OnDesk.{IsDeskOutput, HasRefusal, IsRefusedOnDesk, IsDueOnDesk, LeavesRows}
use Rattle.lie_app.specs.Outside.{Outside}
use Rattle.lie_status.specs.Status.{line_of}
use Rattle.lie_app.specs.Words.{AnyCommand}
use Rattle.lie_sample.specs.Members.{AreLinesBelow, LeavesLines, IsSampleRefusal, IsSampleDue}
use Rattle.lie_work.specs.Work.{IsAnswered, IsEnded}

-- ---- commands: a further kind adds its line to each definition
-- the text is what the command puts, and it leaves these rows
abbrev pub IsOutputOf : Outside → Option (List Row) → AnyCommand → List ℕ → Type 0
IsOutputOf outside left (OnFile path c) text = IsFileOutput outside.files path c text
IsOutputOf outside left (OnDesk c) text = IsDeskOutput outside left c text
IsOutputOf outside left (Sample last budget) text = AreLinesBelow budget (last + 1) text
IsOutputOf outside left (OnLink address count budget) text = text ≡ served_line count

-- what becomes of the rows, but for those that an output is told with: a command without the desk leaves them, and of a service it is told
-- with the link
abbrev pub LeavesDesk : Type 0 → Outside → Option (List Row) → AnyCommand → Outcome → Type 0
LeavesDesk starved outside left (OnFile path c) outcome = left ≡ outside.rows
LeavesDesk starved outside left (OnDesk c) outcome = LeavesRows starved outside.rows left outcome
LeavesDesk starved outside left (Sample last budget) outcome = left ≡ outside.rows
LeavesDesk starved outside left (OnLink address count budget) outcome = Unit {0}

-- what becomes of the link, and of the rows by a service: any other command leaves the link
abbrev pub LeavesLink : Kept → Kept → Line → Line → AnyCommand → Outcome → Type 0
LeavesLink old new line line' (OnFile path c) outcome = line' ≡ line
LeavesLink old new line line' (OnDesk c) outcome = line' ≡ line
LeavesLink old new line line' (Sample last budget) outcome = line' ≡ line
LeavesLink old new line line' (OnLink address count budget) outcome = LeavesService budget count old new line line' outcome

-- what an outcome says of the command and of what it names
abbrev pub HasCommandCause : Outside → AnyCommand → Outcome → Type 0
HasCommandCause outside (OnFile path c) outcome = HasFileCause outside.files path c outcome
HasCommandCause outside (OnDesk c) outcome = HasRefusal (IsRefusedOnDesk outside c) outcome
HasCommandCause outside (Sample last budget) outcome = HasRefusal (IsSampleRefusal last budget) outcome
HasCommandCause outside (OnLink address count budget) outcome = HasServiceCause outcome

-- which outcome is due
abbrev pub IsDue : Outside → AnyCommand → Outcome → Type 0
IsDue outside (OnFile path c) due = IsDueOnFile outside.files path c due
IsDue outside (OnDesk c) due = IsDueOnDesk outside c due
IsDue outside (Sample last budget) due = IsSampleDue last budget due
IsDue outside (OnLink address count budget) due = due ≡ Done

-- ---- words
-- what an outcome says of words: those that are no command are refused as wrong, unless memory is wanting
abbrev pub HasCause : Outside → Option AnyCommand → Outcome → Type 0
HasCause outside None outcome = (outcome ≡ Refused Usage) ⊎ (outcome ≡ Failed NoMemory)
HasCause outside (Some c) outcome = HasCommandCause outside c outcome

-- what becomes of the rows: words that are no command leave them
abbrev pub LeavesWordsDesk : Type 0 → Outside → Option (List Row) → Option AnyCommand → Outcome → Type 0
LeavesWordsDesk starved outside left None outcome = left ≡ outside.rows
LeavesWordsDesk starved outside left (Some c) outcome = LeavesDesk starved outside left c outcome

-- what becomes of the link: words that are no command leave it
abbrev pub LeavesWordsLink : Kept → Kept → Line → Line → Option AnyCommand → Outcome → Type 0
LeavesWordsLink old new line line' None outcome = line' ≡ line
LeavesWordsLink old new line line' (Some c) outcome = LeavesLink old new line line' c outcome

-- the outcome that is due is answered, unless memory is wanting, or a file, the output, the keeper or the link fails
abbrev pub IsStopped : Outcome → Outcome → Type 0
IsStopped due outcome = IsEnded due outcome ⊎ ((outcome ≡ Failed KeeperFault) ⊎ (outcome ≡ Failed LinkFault))

-- the outcome that is due is answered, unless memory is wanting or a count rises
abbrev pub IsComplete : Outside → Option AnyCommand → Type 0 → Type 0 → Type 0 → Type 0 → Outcome → Type 0
IsComplete outside command read_rose write_rose keeper_rose link_rose outcome =
    (c : AnyCommand) (due : Outcome) → command ≡ Some c → IsDue outside c due → ¬ read_rose → ¬ write_rose → ¬ keeper_rose → ¬ link_rose
    → IsAnswered due outcome

-- ---- the streams
-- a text was put, all of it
abbrev pub PutsAll : Option (List ℕ) → Option (List ℕ) → (List ℕ → Type 0) → Type 0
PutsAll old new is_text = (text : List ℕ) × is_text text × Appends old new text

-- a part from the front of a text was put
abbrev pub PutsFront : Option (List ℕ) → Option (List ℕ) → (List ℕ → Type 0) → Type 0
PutsFront old new is_text = (text : List ℕ) × is_text text × AppendsFront old new text

-- what each outcome says of the output
abbrev pub LeavesOut : {O : Type 0} → (O → Option (List ℕ)) → (O → ℕ) → (O → ℕ) → O → O
    → (List ℕ → Type 0) → Outcome → Type 0
LeavesOut taken faults starved old new is_text Done = PutsAll (taken old) (taken new) is_text
LeavesOut taken faults starved old new is_text (Refused refusal) = new ≡ old
LeavesOut taken faults starved old new is_text (Failed NoMemory) =
    (new ≡ old) ⊎ (Rose (starved old) (starved new) × PutsFront (taken old) (taken new) is_text)
LeavesOut taken faults starved old new is_text (Failed ReadFault) = new ≡ old
LeavesOut taken faults starved old new is_text (Failed KeeperFault) = new ≡ old
LeavesOut taken faults starved old new is_text (Failed LinkFault) = new ≡ old
LeavesOut taken faults starved old new is_text (Failed WriteFault) =
    Rose (faults old) (faults new) × PutsFront (taken old) (taken new) is_text

-- the same for a command: the lines of a sample stay where a member is refused
abbrev pub LeavesOutputOf : {O : Type 0} → (O → Option (List ℕ)) → (O → ℕ) → (O → ℕ) → O → O
    → Outside → Option (List Row) → AnyCommand → Outcome → Type 0
LeavesOutputOf taken faults starved old new outside left (Sample last budget) outcome =
    LeavesLines taken faults starved old new last budget outcome
LeavesOutputOf taken faults starved old new outside left c outcome =
    LeavesOut taken faults starved old new (IsOutputOf outside left c) outcome

-- and for words: those that are no command put nothing
abbrev pub LeavesOutput : {O : Type 0} → (O → Option (List ℕ)) → (O → ℕ) → (O → ℕ) → O → O
    → Outside → Option (List Row) → Option AnyCommand → Outcome → Type 0
LeavesOutput taken faults starved old new outside left None outcome = LeavesOut taken faults starved old new (λ text. ⊥) outcome
LeavesOutput taken faults starved old new outside left (Some c) outcome =
    LeavesOutputOf taken faults starved old new outside left c outcome

-- the whole line was taken, or a part from its front where a count rose
abbrev pub TakesLine : {E : Type 0} → (E → Option (List ℕ)) → (E → ℕ) → (E → ℕ) → E → E → List ℕ → Type 0
TakesLine taken faults starved old new line =
    Appends (taken old) (taken new) line
    ⊎ ((Rose (faults old) (faults new) ⊎ Rose (starved old) (starved new)) × AppendsFront (taken old) (taken new) line)

-- what each status says of the error stream: Done leaves it, and the line of any other is put in one call
abbrev pub LeavesErr : {E : Type 0} → (E → Option (List ℕ)) → (E → ℕ) → (E → ℕ) → (E → ℕ) → E → E → Status → Type 0
LeavesErr taken faults starved puts old new status =
    ((status ≡ statuses.Done) × (new ≡ old))
    ⊎ ((status ≢ statuses.Done) × (puts new ≡ next_count (puts old)) × TakesLine taken faults starved old new (line_of status))
