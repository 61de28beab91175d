-- Of any file and any rows some study is due.
use Rattle.std.specs.Prelude.{ℕ, ◌≡◌, ◌≢◌, ◌<◌, ◌≤◌, nat_lt, Bool, true, false, List, length, Option, Some, None, bytes_eq, refl}
use Rattle.std.proofs.Common.{sym, subst, ◌∙◌, arith}
use Rattle.std.proofs.lemmas.Bool.Decides.{nat_tests}
use Rattle.std.proofs.lemmas.Slice.Eq.{bytes_eq-Decides}
use Rattle.lie_geometry.specs.SolvedEquations.{SolvedEquation}
use Rattle.lie_system.specs.Systems.{SystemRead}
use Rattle.lie_canonical.specs.CanonicalText.{canonical_text}
use Rattle.lie_outer.specs.Rows.{row_named, greatest_row_count}
use Rattle.lie_outer.specs.declared.rows.Row.{Row}
use Rattle.lie_work.specs.Analyse as analyses
use Rattle.lie_work.specs.Analyse.{IsAnalyseDue, IsSymmetriesDue}
use Rattle.lie_work.specs.Laws.{SomeWorkIsDue}
use Rattle.lie_work.specs.SolvedFile.{IsSolvedFile}
use Rattle.lie_work.specs.declared.command.FileCommand.TheVariants.{Analyse}
use Rattle.lie_work.specs.declared.outcome.Outcome.{Outcome}
use Rattle.lie_work.specs.declared.outcome.Outcome.TheVariants as outcomes
use Rattle.lie_work.specs.declared.outcome.Refusal.TheVariants.{Taken, Full, Past, Spent}
use Rattle.lie_desk.specs.Kept.{HasCanonicalText}
use Rattle.lie_desk.specs.Due.{IsStudyDue, due_file, due_kept, due_taken, due_run, due_full, due_new}
use Rattle.lie_desk.specs.Laws.{SomeStudyIsDue}

module _ (name file : List ℕ) (budget : ℕ) (rows : List Row) (none : (due : Outcome) → ¬ (IsStudyDue name file budget rows due)) where
  -- a row of the name keeps the text of a solved file, or another
  never_found : (row : Row) → row_named rows name ≡ Some row → (s : SystemRead) (rs : List SolvedEquation) → IsSolvedFile file s rs → ⊥
  never_found row at s rs solved = go (bytes_eq (canonical_text s) row.text) refl
    where
      own : HasCanonicalText file (canonical_text s)
      own = record { system = s; rules = rs; solved = solved; printed = refl }

      go : (t : Bool) → bytes_eq (canonical_text s) row.text ≡ t → ⊥
      go true e = none outcomes.Done (due_kept row at (subst (HasCanonicalText file) ((bytes_eq-Decides (canonical_text s) row.text).0 e) own))
      go false e =
          none (outcomes.Refused (Taken row.text)) (due_taken row (canonical_text s) at own
          (λ same. let t : true ≡ false = sym ((bytes_eq-Decides (canonical_text s) row.text).1 same) ∙ e in absurd (cc)))

  never_room : row_named rows name ≡ None → IsSymmetriesDue file budget → ⊥
  never_room free d = go (nat_lt (length rows) greatest_row_count) refl
    where
      go : (t : Bool) → nat_lt (length rows) greatest_row_count ≡ t → ⊥
      go true e = none outcomes.Done (due_new free d (grind (arith, nat_tests, e)))
      go false e = none (outcomes.Refused Full) (due_full free d (grind (arith, nat_tests, e)))

  never_kept : (row : Row) → row_named rows name ≡ Some row → (due : Outcome) → IsAnalyseDue file budget due → ⊥
  never_kept row at due (analyses.due_file refusal h) = none (outcomes.Refused refusal) (due_file refusal h)
  never_kept row at due (analyses.due_past step what w) = never_found row at w.system w.rules w.solved
  never_kept row at due (analyses.due_spent d) = never_found row at d.system d.rules d.solved
  never_kept row at due (analyses.due_report d) = never_found row at d.system d.rules d.solved

  never_free : row_named rows name ≡ None → (due : Outcome) → IsAnalyseDue file budget due → ⊥
  never_free free due (analyses.due_file refusal h) = none (outcomes.Refused refusal) (due_file refusal h)
  never_free free due (analyses.due_past step what w) = none (outcomes.Refused (Past step what)) (due_run (Past step what) free (analyses.due_past step what w))
  never_free free due (analyses.due_spent d) = none (outcomes.Refused (Spent budget)) (due_run (Spent budget) free (analyses.due_spent d))
  never_free free due (analyses.due_report d) = never_room free d

  never : (found : Option Row) → row_named rows name ≡ found → (due : Outcome) → IsAnalyseDue file budget due → ⊥
  never None e due d = never_free e due d
  never (Some row) e due d = never_kept row e due d

pub some_study : SomeWorkIsDue → SomeStudyIsDue
some_study some name file budget rows none = some (Analyse budget) file (never name file budget rows none (row_named rows name) refl)
