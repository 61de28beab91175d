-- The study that is due is given, and so are the calls on a kept name.
use Rattle.std.specs.Prelude.{ℕ, ◌≡◌, ◌≤◌, ◌<◌, Bool, true, false, List, length, Option, Some, None, IsSome, Result, Ok, Err, MatchBool, refl}
use Rattle.std.proofs.Common.{sym, ap, subst, ◌∙◌, arith}
use Rattle.lie_analysis.specs.Laws.{AnswersDiffer}
use Rattle.lie_outer.specs.Rows.{row_named, greatest_row_count}
use Rattle.lie_outer.specs.declared.rows.Row.{Row}
use Rattle.lie_work.specs.Analyse.{IsSymmetriesReport, IsAnalyseRefusal, IsAnalyseDue, IsSymmetriesDue}
use Rattle.lie_work.specs.Analyse as analyses
use Rattle.lie_work.specs.SolvedFile.{IsFileRefusal}
use Rattle.lie_work.specs.Work.{IsAnswer}
use Rattle.lie_work.specs.declared.outcome.Outcome.{Outcome}
use Rattle.lie_work.specs.declared.outcome.Outcome.TheVariants as outcomes
use Rattle.lie_work.specs.declared.outcome.Refusal.{Refusal}
use Rattle.lie_work.specs.declared.outcome.Refusal.TheVariants.{Missing, Taken, Full}
use Rattle.lie_work.proofs.SolvedFiles.{solved_not_refused}
use Rattle.lie_desk.specs.Kept.{HasCanonicalText}
use Rattle.lie_desk.specs.Desk.{DeskAnswers, HasDeskCause, StudiesFile, IsStudyEntered, IsStudyKept, IsStudyRefusal, no_file, taken, no_report, full}
use Rattle.lie_desk.specs.Desk.{IsTaken, IsNameRefusal, missing}
use Rattle.lie_desk.specs.Due.{IsStudyDue, due_file, due_kept, due_taken, due_run, due_full, due_new, IsNameDue, due_missing, due_named, IsGiven}
use Rattle.lie_desk.specs.Laws.{CanonicalTextIsOne}
use Rattle.lie_desk.specs.declared.answers.DeskFail.{DeskFail}
use Rattle.lie_desk.specs.declared.answers.DeskFail.TheVariants.{Refused, KeeperFault, NoMemory}
use Rattle.lie_desk.specs.declared.answers.Study.{Study}
use Rattle.lie_desk.proofs.FoundRows.{one_found, found_or_none}
use Rattle.lie_desk.proofs.RefusedFiles.{refused_file_due}
use Rattle.lie_desk.proofs.DueReports.{refusal_is_answered, report_is_done}

not_done : (refusal : Refusal) → outcomes.Refused refusal ≡ outcomes.Done → ⊥
not_done refusal e = absurd (cc)

module _ (one_text : CanonicalTextIsOne) (answers : AnswersDiffer) (name file : List ℕ) (budget : ℕ) (rows : List Row) where
  -- a file with a canonical text, or with a report, is not refused
  clean : (text : List ℕ) (refusal : Refusal) → HasCanonicalText file text → IsFileRefusal file refusal → ⊥
  clean text refusal h r = solved_not_refused file h.system h.rules refusal h.solved r

  clean_report : (report : List ℕ) (refusal : Refusal) → IsSymmetriesReport file budget report → IsFileRefusal file refusal → ⊥
  clean_report report refusal h r = solved_not_refused file h.system h.rules refusal h.solved r

  -- ---- studies
  entered_due : (report : List ℕ) (rows' : List Row) (due : Outcome) → IsStudyEntered name file budget report rows rows'
      → IsStudyDue name file budget rows due → due ≡ outcomes.Done
  entered_due report rows' due e (due_file refusal r) = absurd (clean_report e.row.report refusal e.made r)
  entered_due report rows' due e (due_kept row at h) = refl
  entered_due report rows' due e (due_taken row text at h differ) = absurd (found_or_none rows name row at e.free)
  entered_due report rows' due e (due_run refusal none d) = report_is_done answers file budget e.row.report (outcomes.Refused refusal) e.made d
  entered_due report rows' due e (due_full none d many) = let room = e.room in absurd (omega (arith, room, many))
  entered_due report rows' due e (due_new none d room) = refl

  same_text : (row other : Row) (text : List ℕ) → row_named rows name ≡ Some row → row_named rows name ≡ Some other → HasCanonicalText file row.text
      → HasCanonicalText file text → text ≡ other.text
  same_text row other text at found h g = one_text file text row.text g h ∙ ap (λ (r : Row). r.text) (one_found rows name row other at found)

  kept_due : (report : List ℕ) (rows' : List Row) (due : Outcome) → IsStudyKept name file report rows rows' → IsStudyDue name file budget rows due
      → due ≡ outcomes.Done
  kept_due report rows' due k (due_file refusal r) = absurd (clean k.row.text refusal k.canonical r)
  kept_due report rows' due k (due_kept row at h) = refl
  kept_due report rows' due k (due_taken row text at h differ) = absurd (differ (same_text k.row row text k.found at k.canonical h))
  kept_due report rows' due k (due_run refusal none d) = absurd (found_or_none rows name k.row k.found none)
  kept_due report rows' due k (due_full none d many) = absurd (found_or_none rows name k.row k.found none)
  kept_due report rows' due k (due_new none d room) = refl

  study_due : (study : Study) (rows' : List Row) (due : Outcome) → StudiesFile name file budget study rows rows' → IsStudyDue name file budget rows due
      → due ≡ outcomes.Done
  study_due study rows' due h d = go study.is_new h
    where
      go : (t : Bool) → MatchBool t (IsStudyEntered name file budget study.report rows rows') (IsStudyKept name file study.report rows rows')
          → due ≡ outcomes.Done
      go true e = entered_due study.report rows' due e d
      go false k = kept_due study.report rows' due k d

  -- ---- refusals
  taken_due : (text kept : List ℕ) (due : Outcome) → HasCanonicalText file text → IsTaken name text kept rows → IsStudyDue name file budget rows due
      → IsAnswer due (outcomes.Refused (Taken kept))
  taken_due text kept due h t (due_file other q) = absurd (clean text other h q)
  taken_due text kept due h t (due_kept row at g) = absurd (t.other (same_text row t.row text at t.found g h ∙ sym t.text))
  taken_due text kept due h t (due_taken row other at g differ) =
      ap (λ x. outcomes.Refused (Taken x)) (t.text ∙ ap (λ (r : Row). r.text) (one_found rows name t.row row t.found at))
  taken_due text kept due h t (due_run other none d) = absurd (found_or_none rows name t.row t.found none)
  taken_due text kept due h t (due_full none d many) = absurd (found_or_none rows name t.row t.found none)
  taken_due text kept due h t (due_new none d room) = absurd (found_or_none rows name t.row t.found none)

  run_due : (refusal : Refusal) (due : Outcome) → IsAnalyseRefusal file budget refusal → row_named rows name ≡ None
      → IsStudyDue name file budget rows due → IsAnswer due (outcomes.Refused refusal)
  run_due refusal due r free (due_file other q) = refusal_is_answered answers file budget refusal due r (analyses.due_file other q)
  run_due refusal due r free (due_kept row at h) = absurd (found_or_none rows name row at free)
  run_due refusal due r free (due_taken row text at h differ) = absurd (found_or_none rows name row at free)
  run_due refusal due r free (due_run other none d) = refusal_is_answered answers file budget refusal due r d
  run_due refusal due r free (due_full none d many) =
      absurd (not_done refusal (refusal_is_answered answers file budget refusal outcomes.Done r (analyses.due_report d)))
  run_due refusal due r free (due_new none d room) =
      absurd (not_done refusal (refusal_is_answered answers file budget refusal outcomes.Done r (analyses.due_report d)))

  full_due : (report : List ℕ) (due : Outcome) → IsSymmetriesReport file budget report → row_named rows name ≡ None → greatest_row_count ≤ length rows
      → IsStudyDue name file budget rows due → IsAnswer due (outcomes.Refused Full)
  full_due report due m free many (due_file other q) = absurd (clean_report report other m q)
  full_due report due m free many (due_kept row at h) = absurd (found_or_none rows name row at free)
  full_due report due m free many (due_taken row text at h differ) = absurd (found_or_none rows name row at free)
  full_due report due m free many (due_run other none d) = absurd (not_done other (report_is_done answers file budget report (outcomes.Refused other) m d))
  full_due report due m free many (due_full none d more) = refl
  full_due report due m free many (due_new none d room) = absurd (omega (arith, room, many))

  refusal_due : (refusal : Refusal) (due : Outcome) → IsStudyRefusal name file budget (Some rows) refusal → IsStudyDue name file budget rows due
      → IsAnswer due (outcomes.Refused refusal)
  refusal_due refusal due (no_file r h) d = refused_file_due name file budget rows refusal due h d
  refusal_due refusal due (taken text kept h t) d = taken_due text kept due h t d
  refusal_due refusal due (no_report r h free) d = run_due refusal due h free d
  refusal_due refusal due (full report m h) d = full_due report due m h.0 h.1 d

  -- ---- answers
  given : (new : Option (List Row)) (result : Result Study DeskFail) (due : Outcome)
      → DeskAnswers (StudiesFile name file budget) (Some rows) new result
      → HasDeskCause (IsStudyRefusal name file budget (Some rows)) result → IsStudyDue name file budget rows due → IsGiven due result
  given None (Ok study) due h cause d = absurd h
  given (Some rows') (Ok study) due h cause d = study_due study rows' due h d
  given new (Err (Refused refusal)) due h cause d = refusal_due refusal due cause d
  given new (Err KeeperFault) due h cause d = tt
  given new (Err NoMemory) due h cause d = tt

pub study_is_given : CanonicalTextIsOne → AnswersDiffer → (name file : List ℕ) (budget : ℕ) (old new : Option (List Row)) (result : Result Study DeskFail)
    → DeskAnswers (StudiesFile name file budget) old new result → HasDeskCause (IsStudyRefusal name file budget old) result
    → (rows : List Row) (due : Outcome) → old ≡ Some rows → IsStudyDue name file budget rows due → IsGiven due result
study_is_given one_text answers name file budget old new result h cause rows due is d =
    given one_text answers name file budget rows new result due
    (subst (λ (o : Option (List Row)). DeskAnswers (StudiesFile name file budget) o new result) is h)
    (subst (λ (o : Option (List Row)). HasDeskCause (IsStudyRefusal name file budget o) result) is cause) d
