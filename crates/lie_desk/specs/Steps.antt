-- What the steps of a study say.
use Rattle.std.specs.Prelude.{ℕ, ◌≡◌, ◌≢◌, ◌≤◌, ◌<◌, true, false, List, [], ◌∷◌, ◌++◌, length, Option, None, IfSome, Result, Ok, Err}
use Rattle.lie_geometry.specs.SolvedEquations.{SolvedEquation}
use Rattle.lie_system.specs.Systems.{SystemRead}
use Rattle.lie_outer.specs.Rows.{greatest_row_count, row_named}
use Rattle.lie_outer.specs.declared.rows.Row.{Row}
use Rattle.lie_work.specs.SolvedFile.{IsSolvedFile}
use Rattle.lie_work.specs.declared.outcome.Refusal.{Refusal}
use Rattle.lie_work.specs.declared.outcome.Refusal.TheVariants.{Taken, Full}
use Rattle.lie_desk.specs.declared.answers.DeskFail.{DeskFail}
use Rattle.lie_desk.specs.declared.answers.DeskFail.TheVariants.{Refused}
use Rattle.lie_desk.specs.declared.answers.Study.{Study}

-- the system and its solved form are those of some file
abbrev pub HasFile : SystemRead → List SolvedEquation → Type 0
HasFile s rs = (file : List ℕ) × IsSolvedFile file s rs

-- a kept row answers a file of its own text with its report, and refuses a file of another
abbrev pub IsSettled : Row → List ℕ → Result Study DeskFail → Type 0
IsSettled row text (Ok study) = (study.is_new ≡ false) × (study.report ≡ row.report) × (row.text ≡ text)
IsSettled row text (Err fail) = (fail ≡ Refused (Taken row.text)) × (text ≢ row.text)

-- a row is appended, and its report is answered
abbrev pub Enters : Row → Study → List Row → List Row → Type 0
Enters row study rows rows' =
    (study.is_new ≡ true) × (study.report ≡ row.report) × (row_named rows row.name ≡ None) × (length rows < greatest_row_count)
    × (rows' ≡ rows ++ row ∷ [])

-- why a row whose name no row has is not put; a keeper that tells its rows never says that the name is there
pub data IsPutRefusal (row : Row) (held : Option (List Row)) : Refusal → Type 0 where
  untold_taken : IfSome held (λ rows. ⊥) → IsPutRefusal row held (Taken [])
  no_room : IfSome held (λ rows. (row_named rows row.name ≡ None) × (greatest_row_count ≤ length rows)) → IsPutRefusal row held Full
