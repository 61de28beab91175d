-- A row of a file that is put: what is answered then is the study of the file.
use Rattle.std.specs.Prelude.{◌≡◌, ℕ, List, Option, Some, None, Result, Ok, Err, true, IfOk, IfSome, ◌≢◌, refl}
use Rattle.std.proofs.Common.{sym, subst}
use Rattle.lie_outer.specs.declared.rows.Row.{Row}
use Rattle.lie_outer.specs.Rows.{row_named, greatest_row_count}
use Rattle.lie_work.specs.Analyse.{IsSymmetriesReport, IsAnalyseRefusal}
use Rattle.lie_work.specs.Outcomes.{IsRefusalOr}
use Rattle.lie_work.specs.SolvedFile.{IsFileRefusal}
use Rattle.lie_work.specs.declared.outcome.NoText.{NoText}
use Rattle.lie_work.specs.declared.outcome.NoText.TheVariants as texts
use Rattle.lie_work.specs.declared.outcome.Refusal.{Refusal}
use Rattle.lie_desk.specs.declared.answers.DeskFail.{DeskFail}
use Rattle.lie_desk.specs.declared.answers.DeskFail.TheVariants.{Refused, KeeperFault, NoMemory}
use Rattle.lie_desk.specs.declared.answers.Study.{Study}
use Rattle.lie_desk.specs.Desk.{DeskAnswers, HasDeskCause, StudiesFile, IsStudyEntered, IsStudyRefusal, no_file, taken, no_report, full, IsTaken, IsNewReport, not_made}
use Rattle.lie_desk.specs.Kept.{HasCanonicalText}
use Rattle.lie_desk.specs.Steps.{Enters, IsPutRefusal, IsSettled, untold_taken, no_room}

module _ (name file : List ℕ) (budget : ℕ) (row : Row) (named : row.name ≡ name) (canonical : HasCanonicalText file row.text)
    (made : IsSymmetriesReport file budget row.report) where
  entered : (study : Study) (rows rows' : List Row) → Enters row study rows rows' → StudiesFile name file budget study rows rows'
  entered study rows rows' (new, told, free, room, put) =
      rw new (record {
        row = row;
        named = named;
        canonical = canonical;
        made = made;
        told = told;
        free = subst (λ n. row_named rows n ≡ None) named free;
        room = room;
        put = put;
      })

  pub entered_answers : (old new : Option (List Row)) (result : Result Study DeskFail) → DeskAnswers (Enters row) old new result
      → DeskAnswers (StudiesFile name file budget) old new result
  entered_answers old new (Err fail) h = h
  entered_answers None new (Ok study) h = h
  entered_answers (Some rows) None (Ok study) h = absurd h
  entered_answers (Some rows) (Some rows') (Ok study) h = entered study rows rows' h

  refused : (held : Option (List Row)) (refusal : Refusal) → IsPutRefusal row held refusal → IsStudyRefusal name file budget held refusal
  refused None refusal (untold_taken none) = taken row.text _ canonical tt
  refused (Some rows) refusal (untold_taken none) = absurd none
  refused None refusal (no_room h) = full row.report made tt
  refused (Some rows) refusal (no_room h) = full row.report made (subst (λ n. row_named rows n ≡ None) named h.0, h.1)

  pub entered_cause : (held : Option (List Row)) (result : Result Study DeskFail) → HasDeskCause (IsPutRefusal row held) result
      → HasDeskCause (IsStudyRefusal name file budget held) result
  entered_cause held (Ok study) h = tt
  entered_cause held (Err (Refused refusal)) h = refused held refusal h
  entered_cause held (Err KeeperFault) h = tt
  entered_cause held (Err NoMemory) h = tt

-- what is told of the row is the report of the file
pub new_report : (file : List ℕ) (budget : ℕ) (report : List ℕ) (result : Result Study DeskFail) → IsSymmetriesReport file budget report
    → IfOk result (λ study. study.report ≡ report) → IsNewReport file budget result
new_report file budget report (Ok study) made told = λ new. subst (IsSymmetriesReport file budget) (sym told) made
new_report file budget report (Err fail) made told = tt

-- ---- refusals before a row is put
pub file_cause : (name file : List ℕ) (budget : ℕ) (held : Option (List Row)) (none : NoText) → IsRefusalOr (IsFileRefusal file) none
    → HasDeskCause {X = Study} (IsStudyRefusal name file budget held) (Err (not_made none))
file_cause name file budget held (texts.Refused refusal) h = no_file refusal h
file_cause name file budget held texts.NoMemory h = tt

pub run_cause : (name file : List ℕ) (budget : ℕ) (held : Option (List Row)) (none : NoText) → IfSome held (λ rows. row_named rows name ≡ None)
    → IsRefusalOr (IsAnalyseRefusal file budget) none → HasDeskCause {X = Study} (IsStudyRefusal name file budget held) (Err (not_made none))
run_cause name file budget held (texts.Refused refusal) free h = no_report refusal h free
run_cause name file budget held texts.NoMemory free h = tt

is_taken : (name text : List ℕ) (row : Row) (held : Option (List Row)) → IfSome held (λ rows. Some row ≡ row_named rows name) → text ≢ row.text
    → IfSome held (IsTaken name text row.text)
is_taken name text row None found other = tt
is_taken name text row (Some rows) found other = record { row = row; found = sym found; text = refl; other = other }

pub settled_cause : (name file text : List ℕ) (budget : ℕ) (row : Row) (held : Option (List Row)) (result : Result Study DeskFail)
    → HasCanonicalText file text → IfSome held (λ rows. Some row ≡ row_named rows name) → IsSettled row text result
    → HasDeskCause (IsStudyRefusal name file budget held) result
settled_cause name file text budget row held (Ok study) canonical found h = tt
settled_cause name file text budget row held (Err fail) canonical found h = rw h.0 (taken text row.text canonical (is_taken name text row held found h.1))
