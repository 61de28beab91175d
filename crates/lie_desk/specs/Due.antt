-- Which answer of the desk is due, by the rows.
use Rattle.std.specs.Prelude.{ℕ, ◌≡◌, ◌≢◌, ◌≤◌, ◌<◌, List, length, Some, None, IsSome, Result, Ok, Err}
use Rattle.lie_outer.specs.Rows.{greatest_row_count, row_named}
use Rattle.lie_outer.specs.declared.rows.Row.{Row}
use Rattle.lie_work.specs.Analyse.{IsSymmetriesDue, IsAnalyseDue}
use Rattle.lie_work.specs.SolvedFile.{IsFileRefusal}
use Rattle.lie_work.specs.Work.{IsAnswer}
use Rattle.lie_work.specs.declared.outcome.Outcome.{Outcome}
use Rattle.lie_work.specs.declared.outcome.Outcome.TheVariants as outcomes
use Rattle.lie_work.specs.declared.outcome.Refusal.{Refusal}
use Rattle.lie_work.specs.declared.outcome.Refusal.TheVariants.{Missing, Taken, Full}
use Rattle.lie_desk.specs.Kept.{HasCanonicalText}
use Rattle.lie_desk.specs.declared.answers.DeskFail.{DeskFail}
use Rattle.lie_desk.specs.declared.answers.DeskFail.TheVariants.{Refused, KeeperFault, NoMemory}

-- of a study: the file is refused; its name is kept with its text, and no run is made; with another text; or the name is free, and the
-- run tells of a refusal, there is no room, or a row is put
pub data IsStudyDue (name file : List ℕ) (budget : ℕ) (rows : List Row) : Outcome → Type 0 where
  due_file : (refusal : Refusal) → IsFileRefusal file refusal → IsStudyDue name file budget rows (outcomes.Refused refusal)
  due_kept : (row : Row) → row_named rows name ≡ Some row → HasCanonicalText file row.text
      → IsStudyDue name file budget rows outcomes.Done
  due_taken : (row : Row) (canonical : List ℕ) → row_named rows name ≡ Some row → HasCanonicalText file canonical → canonical ≢ row.text
      → IsStudyDue name file budget rows (outcomes.Refused (Taken row.text))
  due_run : (refusal : Refusal) → row_named rows name ≡ None → IsAnalyseDue file budget (outcomes.Refused refusal)
      → IsStudyDue name file budget rows (outcomes.Refused refusal)
  due_full : row_named rows name ≡ None → IsSymmetriesDue file budget → greatest_row_count ≤ length rows
      → IsStudyDue name file budget rows (outcomes.Refused Full)
  due_new : row_named rows name ≡ None → IsSymmetriesDue file budget → length rows < greatest_row_count
      → IsStudyDue name file budget rows outcomes.Done

-- of a call on a kept name
pub data IsNameDue (name : List ℕ) (rows : List Row) : Outcome → Type 0 where
  due_missing : row_named rows name ≡ None → IsNameDue name rows (outcomes.Refused Missing)
  due_named : IsSome (row_named rows name) → IsNameDue name rows outcomes.Done

-- the answer that is due is given, unless the keeper fails or memory is wanting
abbrev pub IsGiven : {X : Type 0} → Outcome → Result X DeskFail → Type 0
IsGiven due (Ok x) = due ≡ outcomes.Done
IsGiven due (Err (Refused refusal)) = IsAnswer due (outcomes.Refused refusal)
IsGiven due (Err KeeperFault) = Unit {0}
IsGiven due (Err NoMemory) = Unit {0}
