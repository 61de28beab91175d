-- The commands of the desk: what each puts and what becomes of the rows, and what its outcome says of the file and of the rows.
use Rattle.std.specs.Prelude.{ℕ, ◌≡◌, ◌⊎◌, true, List, map, IfSome, Some, None}
use Rattle.std.specs.declared.option.Option.{Option}
use Rattle.lie_desk.specs.Desk.{StudiesFile, ShowsReport, DropsStudy, IsStudyRefusal, IsNameRefusal}
use Rattle.lie_desk.specs.Due.{IsStudyDue, IsNameDue}
use Rattle.lie_desk.specs.Kept.{HasReport, AreHonest}
use Rattle.lie_desk.specs.Lines.{names_text, dropped_text}
use Rattle.lie_desk.specs.declared.answers.DeskFail.{DeskFail}
use Rattle.lie_desk.specs.declared.answers.DeskFail.TheVariants as fails
use Rattle.lie_desk.specs.declared.answers.Study.{Study}
use Rattle.lie_outer.specs.Files.{file_at}
use Rattle.lie_outer.specs.Keeper.{Changes}
use Rattle.lie_outer.specs.Rows.{name_of_row}
use Rattle.lie_outer.specs.declared.rows.Row.{Row}
use Rattle.lie_work.specs.Analyse.{IsSymmetriesReport}
use Rattle.lie_work.specs.declared.outcome.Outcome.{Outcome}
use Rattle.lie_work.specs.declared.outcome.Outcome.TheVariants.{Done, Refused, Failed}
use Rattle.lie_work.specs.declared.outcome.Failure.TheVariants as failures
use Rattle.lie_work.specs.declared.outcome.Refusal.{Refusal}
use Rattle.lie_work.specs.declared.outcome.Refusal.TheVariants.{Missing}
use Rattle.lie_app.specs.declared.words.DeskCommand.TheVariants as commands
use Rattle.lie_app.specs.OnFile.{IsContent, IsMissing}
use Rattle.lie_app.specs.Outside.{Outside}
use Rattle.lie_app.specs.Words.{AnyDeskCommand}

-- ---- the text that is put, and what becomes of the rows
-- of a study of the bytes of a file: its report, which is that of the file's symmetries where it is new, and over honest rows also where
-- it was kept
pub record IsStudyText (held left : Option (List Row)) (name file : List ℕ) (budget : ℕ) (text : List ℕ) : Type 0 where
  pub study : Study
  pub rows : Changes held left (StudiesFile name file budget study)
  pub told : text ≡ study.report
  pub new : study.is_new ≡ true → IsSymmetriesReport file budget text
  pub honest : IfSome held (λ rows. AreHonest rows → HasReport file text)

pub record IsStudyOutput (outside : Outside) (left : Option (List Row)) (name path : List ℕ) (budget : ℕ) (text : List ℕ) : Type 0 where
  pub bytes : List ℕ
  pub content : IsContent outside.files path bytes
  pub is_text : IsStudyText outside.rows left name bytes budget text

-- a line for each name, and the rows stay
abbrev pub PutsNames : List ℕ → List Row → List Row → Type 0
PutsNames text rows left = (text ≡ names_text (map name_of_row rows)) × (left ≡ rows)

-- the row of the name goes
abbrev pub PutsDropped : List ℕ → List ℕ → List Row → List Row → Type 0
PutsDropped name text rows left = (text ≡ dropped_text name) × DropsStudy name text rows left

abbrev pub IsDeskOutput : Outside → Option (List Row) → AnyDeskCommand → List ℕ → Type 0
IsDeskOutput outside left (commands.Study name path budget) text = IsStudyOutput outside left name path budget text
IsDeskOutput outside left commands.List text = Changes outside.rows left (PutsNames text)
IsDeskOutput outside left (commands.Show name) text = Changes outside.rows left (ShowsReport name text)
IsDeskOutput outside left (commands.Drop name) text = Changes outside.rows left (PutsDropped name text)

-- ---- why a command is refused
pub data IsStudyRefused (outside : Outside) (name path : List ℕ) (budget : ℕ) : Refusal → Type 0 where
  no_file : IsMissing outside.files path → IsStudyRefused outside name path budget Missing
  no_study : (refusal : Refusal) (bytes : List ℕ) → IsContent outside.files path bytes
      → IsStudyRefusal name bytes budget outside.rows refusal
      → IsStudyRefused outside name path budget refusal

abbrev pub IsRefusedOnDesk : Outside → AnyDeskCommand → Refusal → Type 0
IsRefusedOnDesk outside (commands.Study name path budget) refusal = IsStudyRefused outside name path budget refusal
IsRefusedOnDesk outside commands.List refusal = ⊥
IsRefusedOnDesk outside (commands.Show name) refusal = IsNameRefusal name outside.rows refusal
IsRefusedOnDesk outside (commands.Drop name) refusal = IsNameRefusal name outside.rows refusal

-- where an outcome is a refusal, it is one of these; no link is at fault
abbrev pub HasRefusal : (Refusal → Type 0) → Outcome → Type 0
HasRefusal is_refusal Done = Unit {0}
HasRefusal is_refusal (Refused refusal) = is_refusal refusal
HasRefusal is_refusal (Failed failures.LinkFault) = ⊥
HasRefusal is_refusal (Failed failure) = Unit {0}

-- ---- which outcome is due, where files and rows are told
pub data IsStudyCommandDue (outside : Outside) (name path : List ℕ) (budget : ℕ) : Outcome → Type 0 where
  due_no_file : (files : List (List ℕ × List ℕ)) → outside.files ≡ Some files → file_at files path ≡ None
      → IsStudyCommandDue outside name path budget (Refused Missing)
  due_study : (files : List (List ℕ × List ℕ)) (bytes : List ℕ) (rows : List Row) (due : Outcome) → outside.files ≡ Some files
      → file_at files path ≡ Some bytes → outside.rows ≡ Some rows → IsStudyDue name bytes budget rows due
      → IsStudyCommandDue outside name path budget due

-- of a command on the rows alone
pub record IsRowsDue (outside : Outside) (is_due : List Row → Outcome → Type 0) (due : Outcome) : Type 0 where
  pub rows : List Row
  pub told : outside.rows ≡ Some rows
  pub due_here : is_due rows due

abbrev pub IsDueOnDesk : Outside → AnyDeskCommand → Outcome → Type 0
IsDueOnDesk outside (commands.Study name path budget) due = IsStudyCommandDue outside name path budget due
IsDueOnDesk outside commands.List due = IsRowsDue outside (λ rows d. d ≡ Done) due
IsDueOnDesk outside (commands.Show name) due = IsRowsDue outside (IsNameDue name) due
IsDueOnDesk outside (commands.Drop name) due = IsRowsDue outside (IsNameDue name) due

-- ---- calls of the desk
abbrev pub not_given : DeskFail → Outcome
not_given (fails.Refused refusal) = Refused refusal
not_given fails.KeeperFault = Failed failures.KeeperFault
not_given fails.NoMemory = Failed failures.NoMemory

-- ---- the rows
-- an outcome without an output leaves them; where the output found no memory they may be as after the command
abbrev pub LeavesRows : Type 0 → Option (List Row) → Option (List Row) → Outcome → Type 0
LeavesRows starved old new Done = Unit {0}
LeavesRows starved old new (Refused refusal) = new ≡ old
LeavesRows starved old new (Failed failures.NoMemory) = (new ≡ old) ⊎ starved
LeavesRows starved old new (Failed failures.ReadFault) = new ≡ old
LeavesRows starved old new (Failed failures.KeeperFault) = new ≡ old
LeavesRows starved old new (Failed failures.LinkFault) = new ≡ old
LeavesRows starved old new (Failed failures.WriteFault) = Unit {0}
