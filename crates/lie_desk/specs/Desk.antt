-- The desk: what each of its calls gives, what becomes of the rows, and why a call is refused.
use Rattle.std.specs.Prelude.{ℕ, ◌≡◌, ◌≢◌, ◌≤◌, ◌<◌, true, false, List, [], ◌∷◌, ◌++◌, map, length, MatchBool, Vec}
use Rattle.std.specs.Prelude.{Option, Some, None, IsSome, IfSome, Result, Ok, Err}
use Rattle.std.specs.declared.alloc.Global.{Global}
use Rattle.lie_outer.specs.Causes.{RoseByOne}
use Rattle.lie_outer.specs.Keeper.{Changes}
use Rattle.lie_outer.specs.Rows.{greatest_row_count, name_of_row, row_named, rows_without}
use Rattle.lie_outer.specs.declared.rows.Row.{Row}
use Rattle.lie_outer.specs.declared.keeper.KeeperFail.{KeeperFail}
use Rattle.lie_outer.specs.declared.keeper.KeeperFail.TheVariants as keeps
use Rattle.lie_work.specs.Analyse.{IsSymmetriesReport, IsAnalyseRefusal}
use Rattle.lie_work.specs.SolvedFile.{IsFileRefusal}
use Rattle.lie_work.specs.declared.outcome.NoText.{NoText}
use Rattle.lie_work.specs.declared.outcome.NoText.TheVariants as texts
use Rattle.lie_work.specs.declared.outcome.Refusal.{Refusal}
use Rattle.lie_work.specs.declared.outcome.Refusal.TheVariants.{Missing, Taken, Full}
use Rattle.lie_desk.specs.Kept.{HasCanonicalText}
use Rattle.lie_desk.specs.declared.answers.DeskFail.{DeskFail}
use Rattle.lie_desk.specs.declared.answers.DeskFail.TheVariants.{Refused, KeeperFault, NoMemory}
use Rattle.lie_desk.specs.declared.answers.Study.{Study}

-- ---- what a call gives, and what becomes of the rows
-- no row has the name, and one with the canonical text of the file and its report is appended
pub record IsStudyEntered (name file : List ℕ) (budget : ℕ) (report : List ℕ) (rows rows' : List Row) : Type 0 where
  pub row : Row
  pub named : row.name ≡ name
  pub canonical : HasCanonicalText file row.text
  pub made : IsSymmetriesReport file budget row.report
  pub told : report ≡ row.report
  pub free : row_named rows name ≡ None
  pub room : length rows < greatest_row_count
  pub put : rows' ≡ rows ++ row ∷ []

-- a row has the name and the canonical text of the file, its report is told, and the rows stay
pub record IsStudyKept (name file report : List ℕ) (rows rows' : List Row) : Type 0 where
  pub row : Row
  pub found : row_named rows name ≡ Some row
  pub canonical : HasCanonicalText file row.text
  pub told : report ≡ row.report
  pub left : rows' ≡ rows

abbrev pub StudiesFile : List ℕ → List ℕ → ℕ → Study → List Row → List Row → Type 0
StudiesFile name file budget study rows rows' =
    MatchBool study.is_new (IsStudyEntered name file budget study.report rows rows') (IsStudyKept name file study.report rows rows')

-- a study that is new tells the report of the file's symmetries
abbrev pub IsNewReport : List ℕ → ℕ → Result Study DeskFail → Type 0
IsNewReport file budget (Ok study) = study.is_new ≡ true → IsSymmetriesReport file budget study.report
IsNewReport file budget (Err fail) = Unit {0}

-- all names, in order of entry
abbrev pub ListsNames : Vec (List ℕ) Global → List Row → List Row → Type 0
ListsNames names rows rows' = (names.items ≡ map name_of_row rows) × (rows' ≡ rows)

-- the report of the row of the name
abbrev pub ShowsReport : List ℕ → List ℕ → List Row → List Row → Type 0
ShowsReport name report rows rows' = ((row : Row) × (row_named rows name ≡ Some row) × (report ≡ row.report)) × (rows' ≡ rows)

-- the row of the name goes
abbrev pub DropsStudy : {T : Type 0} → List ℕ → T → List Row → List Row → Type 0
DropsStudy name done rows rows' = IsSome (row_named rows name) × (rows' ≡ rows_without rows name)

-- ---- why a call is refused, by the rows where they are told
-- a row has the name, and this text, which is not the canonical text of the file
pub record IsTaken (name canonical kept : List ℕ) (rows : List Row) : Type 0 where
  pub row : Row
  pub found : row_named rows name ≡ Some row
  pub text : kept ≡ row.text
  pub other : canonical ≢ kept

pub data IsStudyRefusal (name file : List ℕ) (budget : ℕ) (held : Option (List Row)) : Refusal → Type 0 where
  no_file : (refusal : Refusal) → IsFileRefusal file refusal → IsStudyRefusal name file budget held refusal
  taken : (canonical kept : List ℕ) → HasCanonicalText file canonical → IfSome held (IsTaken name canonical kept)
      → IsStudyRefusal name file budget held (Taken kept)
  no_report : (refusal : Refusal) → IsAnalyseRefusal file budget refusal → IfSome held (λ rows. row_named rows name ≡ None)
      → IsStudyRefusal name file budget held refusal
  full : (report : List ℕ) → IsSymmetriesReport file budget report
      → IfSome held (λ rows. (row_named rows name ≡ None) × (greatest_row_count ≤ length rows)) → IsStudyRefusal name file budget held Full

-- a call on a kept name
pub data IsNameRefusal (name : List ℕ) (held : Option (List Row)) : Refusal → Type 0 where
  missing : IfSome held (λ rows. row_named rows name ≡ None) → IsNameRefusal name held Missing

-- a call that is never refused
abbrev pub IsNoRefusal : Refusal → Type 0
IsNoRefusal refusal = ⊥

-- ---- answers
-- what an answer says of the rows: one that gives nothing leaves them
abbrev pub DeskAnswers : {X : Type 0} → (X → List Row → List Row → Type 0) → Option (List Row) → Option (List Row)
    → Result X DeskFail → Type 0
DeskAnswers does old new (Ok x) = Changes old new (does x)
DeskAnswers does old new (Err fail) = new ≡ old

-- why it gives nothing
abbrev pub HasDeskCause : {X : Type 0} → (Refusal → Type 0) → Result X DeskFail → Type 0
HasDeskCause is_refusal (Ok x) = Unit {0}
HasDeskCause is_refusal (Err (Refused refusal)) = is_refusal refusal
HasDeskCause is_refusal (Err KeeperFault) = Unit {0}
HasDeskCause is_refusal (Err NoMemory) = Unit {0}

-- the count of the keeper's faults rises, by one, where its fault is answered, and stays elsewhere
abbrev pub CountsDesk : {X : Type 0} → ℕ → ℕ → Result X DeskFail → Type 0
CountsDesk before now (Ok x) = now ≡ before
CountsDesk before now (Err (Refused refusal)) = now ≡ before
CountsDesk before now (Err KeeperFault) = RoseByOne before now
CountsDesk before now (Err NoMemory) = now ≡ before

-- a keeper that gives nothing
abbrev pub not_kept : KeeperFail → DeskFail
not_kept keeps.Failed = KeeperFault
not_kept keeps.NoMemory = NoMemory

-- work that makes nothing
abbrev pub not_made : NoText → DeskFail
not_made (texts.Refused refusal) = Refused refusal
not_made texts.NoMemory = NoMemory
