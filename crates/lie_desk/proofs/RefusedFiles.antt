-- Where a study is due, and the file is refused, the refusal is what is due.
use Rattle.std.specs.Prelude.{ℕ, ◌≡◌, List, None}
use Rattle.lie_outer.specs.declared.rows.Row.{Row}
use Rattle.lie_work.specs.Analyse.{IsSymmetriesDue}
use Rattle.lie_work.specs.SolvedFile.{IsFileRefusal}
use Rattle.lie_work.specs.Work.{IsAnswer}
use Rattle.lie_work.specs.declared.outcome.Outcome.{Outcome}
use Rattle.lie_work.specs.declared.outcome.Outcome.TheVariants.{Refused}
use Rattle.lie_work.specs.declared.outcome.Refusal.{Refusal}
use Rattle.lie_work.proofs.DueSymmetries.{file_of_symmetries}
use Rattle.lie_work.proofs.SolvedFiles.{solved_not_refused, file_answer}
use Rattle.lie_desk.specs.Due.{IsStudyDue, due_file, due_kept, due_taken, due_run, due_full, due_new}
use Rattle.lie_desk.specs.Kept.{HasCanonicalText}

module _ (name file : List ℕ) (budget : ℕ) (rows : List Row) (refusal : Refusal) where
  with_text : (text : List ℕ) → HasCanonicalText file text → IsFileRefusal file refusal → ⊥
  with_text text h r = solved_not_refused file h.system h.rules refusal h.solved r

  with_end : IsSymmetriesDue file budget → IsFileRefusal file refusal → ⊥
  with_end d r = solved_not_refused file d.system d.rules refusal d.solved r

  pub refused_file_due : (due : Outcome) → IsFileRefusal file refusal → IsStudyDue name file budget rows due → IsAnswer due (Refused refusal)
  refused_file_due due r (due_file other q) = file_answer file refusal other r q
  refused_file_due due r (due_kept row at h) = absurd (with_text row.text h r)
  refused_file_due due r (due_taken row text at h differ) = absurd (with_text text h r)
  refused_file_due due r (due_run other none d) = file_of_symmetries file budget refusal due r d
  refused_file_due due r (due_full none d many) = absurd (with_end d r)
  refused_file_due due r (due_new none d room) = absurd (with_end d r)
