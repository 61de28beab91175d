-- What the work of `analyse` answers is what is due.
use Rattle.std.specs.Prelude.{ℕ, ◌≡◌, List, Option}
use Rattle.std.proofs.Common.{refl, ap, inl, inr}
use Rattle.lie_math.specs.LinearSystem.{LinearSystem}
use Rattle.lie_geometry.specs.SolvedEquations.{SolvedEquation}
use Rattle.lie_normal.specs.WorkCauses.{limit_of}
use Rattle.lie_system.specs.Systems.{SystemRead}
use Rattle.lie_systems.specs.Works.{IsFirstPast}
use Rattle.lie_report.specs.Reports.{Found}
use Rattle.lie_analysis.specs.Answers.{IsAnalysed, IsBudgetSpent, IsEndDue, IsFirstWide, IsUnfinished}
use Rattle.lie_analysis.specs.Laws.{AnswersDiffer}
use Rattle.lie_analysis.specs.Works.{AnalysisMakes}
use Rattle.lie_analysis.specs.declared.analysis.Unfinished.{Unfinished}
use Rattle.lie_analysis.specs.declared.analysis.Unfinished.TheVariants as unfinished
use Rattle.lie_work.specs.declared.outcome.Outcome.{Outcome}
use Rattle.lie_work.specs.declared.outcome.Outcome.TheVariants.{Done, Refused}
use Rattle.lie_work.specs.declared.outcome.Refusal.{Refusal}
use Rattle.lie_work.specs.declared.outcome.Refusal.TheVariants.{Past, Spent}
use Rattle.lie_work.specs.Analyse.{IsAnalyseRefusal, past, spent, IsAnalyseDue, due_file, due_past, due_spent, due_report}
use Rattle.lie_work.specs.Causes.{not_analysed}
use Rattle.lie_work.specs.Outcomes.{IsRefusalOr, untold}
use Rattle.lie_work.specs.SolvedFile.{IsSolvedFile, IsFileRefusal}
use Rattle.lie_work.specs.Work.{IsAnswer, IsAnswered}
use Rattle.lie_work.proofs.SolvedFiles.{file_has_space, solved_not_refused, file_answer, moved}

-- a refusal of the file is answered
pub file_of_symmetries : (bytes : List ℕ) (budget : ℕ) (found : Refusal) (due : Outcome) → IsFileRefusal bytes found → IsAnalyseDue bytes budget due
    → IsAnswer due (Refused found)
file_of_symmetries bytes budget found due h (due_file refusal g) = file_answer bytes found refusal h g
file_of_symmetries bytes budget found due h (due_past step what w) = absurd (solved_not_refused bytes w.system w.rules found w.solved h)
file_of_symmetries bytes budget found due h (due_spent d) = absurd (solved_not_refused bytes d.system d.rules found d.solved h)
file_of_symmetries bytes budget found due h (due_report d) = absurd (solved_not_refused bytes d.system d.rules found d.solved h)

pub analysis_refusal : (fail : Unfinished) (s : SystemRead) (rs : List SolvedEquation) (budget : ℕ) → IsUnfinished s.space rs budget fail
    → (bytes : List ℕ) → IsSolvedFile bytes s rs → IsRefusalOr (IsAnalyseRefusal bytes budget) (not_analysed budget fail)
analysis_refusal (unfinished.Past step what) s rs budget cause bytes h =
    past step what (record { system = s; rules = rs; solved = h; past = cause })
analysis_refusal unfinished.Spent s rs budget cause bytes h = spent (record { system = s; rules = rs; solved = h; spent = cause })
analysis_refusal unfinished.NoMemory s rs budget cause bytes h = tt

module _ (answers : AnswersDiffer) (bytes : List ℕ) (s : SystemRead) (rs : List SolvedEquation) (budget : ℕ) (h : IsSolvedFile bytes s rs) where
  -- what is so of a system of the file is so of this one
  here : (P : SystemRead → List SolvedEquation → Type 0) (t : SystemRead) (qs : List SolvedEquation) → IsSolvedFile bytes t qs → P t qs → P s rs
  here P t qs g p = moved bytes t s qs rs P g h p

  pub analysis_done : (T : LinearSystem) (found : Option Found) (due : Outcome) → IsAnalysed s.space rs budget T found → IsAnalyseDue bytes budget due
      → due ≡ Done
  analysis_done T found due is (due_file refusal g) = absurd (solved_not_refused bytes s rs refusal h g)
  analysis_done T found due is (due_past step what w) =
      absurd ((here (λ v qs. IsFirstWide (AnalysisMakes v.space qs budget) step) w.system w.rules w.solved w.first).wide (is.within step))
  analysis_done T found due is (due_spent d) =
      absurd (answers.ended_or_spent s.space (file_has_space bytes s h.file) rs budget is.steps is.analysis.last is.analysis.ends is.affordable
      (here (λ v qs. IsBudgetSpent v.space qs budget) d.system d.rules d.solved d.spent))
  analysis_done T found due is (due_report d) = refl

  pub analysis_failed : (fail : Unfinished) (due : Outcome) → IsUnfinished s.space rs budget fail → IsAnalyseDue bytes budget due
      → IsAnswered due (untold (not_analysed budget fail))
  analysis_failed unfinished.NoMemory due cause d = inr refl
  analysis_failed (unfinished.Past step kind) due cause (due_file refusal g) = absurd (solved_not_refused bytes s rs refusal h g)
  analysis_failed (unfinished.Past step kind) due cause (due_past first what w) =
      inl (
        kind,
        ap (λ n. Refused (Past n kind)) (answers.one_step s.space rs budget step first (limit_of kind) cause
            (here (λ v qs. IsFirstWide (AnalysisMakes v.space qs budget) first) w.system w.rules w.solved w.first)),
      )
  analysis_failed (unfinished.Past step kind) due cause (due_spent d) =
      absurd (answers.within_or_past s.space rs budget step (limit_of kind)
      ((here (λ v qs. IsBudgetSpent v.space qs budget) d.system d.rules d.solved d.spent).within) cause)
  analysis_failed (unfinished.Past step kind) due cause (due_report d) =
      absurd (answers.within_or_past s.space rs budget step (limit_of kind)
      ((here (λ v qs. IsEndDue v.space qs budget) d.system d.rules d.solved d.due).within) cause)
  analysis_failed unfinished.Spent due cause (due_file refusal g) = absurd (solved_not_refused bytes s rs refusal h g)
  analysis_failed unfinished.Spent due cause (due_past first what w) =
      absurd ((here (λ v qs. IsFirstWide (AnalysisMakes v.space qs budget) first) w.system w.rules w.solved w.first).wide (cause.within first))
  analysis_failed unfinished.Spent due cause (due_spent d) = inl refl
  analysis_failed unfinished.Spent due cause (due_report d) =
      absurd ((here (λ v qs. IsEndDue v.space qs budget) d.system d.rules d.solved d.due).unspent cause)
