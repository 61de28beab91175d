-- Laws of the desk.
use Rattle.std.specs.Prelude.{ℕ, ◌≡◌, ◌≢◌, ◌<◌, List, [], ◌∷◌, ◌++◌, length, None}
use Rattle.lie_outer.specs.Rows.{greatest_row_count, row_named, rows_without}
use Rattle.lie_outer.specs.declared.rows.Row.{Row}
use Rattle.lie_work.specs.declared.outcome.Outcome.{Outcome}
use Rattle.lie_work.specs.declared.outcome.Outcome.TheVariants.{Done}
use Rattle.lie_desk.specs.Kept.{HasCanonicalText, HasReport}
use Rattle.lie_desk.specs.Desk.{StudiesFile}
use Rattle.lie_desk.specs.Due.{IsStudyDue}
use Rattle.lie_desk.specs.declared.answers.Study.{Study}

-- a file has one canonical text at most
abbrev pub CanonicalTextIsOne : Type 0
CanonicalTextIsOne = (file first second : List ℕ) → HasCanonicalText file first → HasCanonicalText file second → first ≡ second

-- the report of a file is the report of every file of its canonical text
abbrev pub CanonicalTextFixesReport : Type 0
CanonicalTextFixesReport = (file other text report : List ℕ) → HasCanonicalText file text → HasCanonicalText other text
    → HasReport file report → HasReport other report

-- rows behind others, where rows were put and dropped, and that of this name was not dropped
pub data KeepsName (name : List ℕ) : List Row → List Row → Type 0 where
  same : (rows : List Row) → KeepsName name rows rows
  put : (row : Row) (rows later : List Row) → row_named rows row.name ≡ None → KeepsName name (rows ++ row ∷ []) later
      → KeepsName name rows later
  dropped : (other : List ℕ) (rows later : List Row) → other ≢ name → KeepsName name (rows_without rows other) later
      → KeepsName name rows later

-- a study that is repeated gives the same report and leaves the rows; and it is due, whatever the budgets
pub record IsRepeated (name file : List ℕ) (budget : ℕ) (first : Study) (rows : List Row) : Type 0 where
  pub due : IsStudyDue name file budget rows Done
  pub again : (study : Study) (rows' : List Row) → StudiesFile name file budget study rows rows'
      → (study.report ≡ first.report) × (rows' ≡ rows)

abbrev pub RepeatedStudyActsOnce : Type 0
RepeatedStudyActsOnce = (name file : List ℕ) (budget other : ℕ) (first : Study) (before rows later : List Row)
    → StudiesFile name file budget first before rows → KeepsName name rows later → IsRepeated name file other first later

-- of any file and any rows some study is due
abbrev pub SomeStudyIsDue : Type 0
SomeStudyIsDue = (name file : List ℕ) (budget : ℕ) (rows : List Row) → ¬ ((due : Outcome) → ¬ (IsStudyDue name file budget rows due))
