-- Why a file has no report, and that it has one, is what is due.
use Rattle.std.specs.Prelude.{ℕ, ◌≡◌, List}
use Rattle.std.proofs.Common.{inl, inr}
use Rattle.lie_analysis.specs.Laws.{AnswersDiffer}
use Rattle.lie_analysis.specs.declared.analysis.Unfinished.TheVariants as unfinished
use Rattle.lie_work.specs.Analyse.{IsSymmetriesReport, IsAnalyseRefusal, no_file, past, spent, IsAnalyseDue}
use Rattle.lie_work.specs.Work.{IsAnswer, IsAnswered}
use Rattle.lie_work.specs.declared.outcome.Outcome.{Outcome}
use Rattle.lie_work.specs.declared.outcome.Outcome.TheVariants.{Done, Refused, Failed}
use Rattle.lie_work.specs.declared.outcome.Failure.TheVariants.{NoMemory}
use Rattle.lie_work.specs.declared.outcome.Refusal.{Refusal}
use Rattle.lie_work.proofs.DueSymmetries.{file_of_symmetries, analysis_done, analysis_failed}

answer_of : (due : Outcome) (refusal : Refusal) → IsAnswered due (Refused refusal) → IsAnswer due (Refused refusal)
answer_of due refusal h = elim h [ inl a ↦ a | inr e ↦ let f : ◌≡◌ {A = Outcome} (Refused refusal) (Failed NoMemory) = e in absurd (cc) ]

pub refusal_is_answered : AnswersDiffer → (file : List ℕ) (budget : ℕ) (refusal : Refusal) (due : Outcome) → IsAnalyseRefusal file budget refusal
    → IsAnalyseDue file budget due → IsAnswer due (Refused refusal)
refusal_is_answered answers file budget refusal due (no_file r h) d = file_of_symmetries file budget refusal due h d
refusal_is_answered answers file budget refusal due (past step what w) d =
    answer_of due refusal (analysis_failed answers file w.system w.rules budget w.solved (unfinished.Past step what) due w.past d)
refusal_is_answered answers file budget refusal due (spent w) d =
    answer_of due refusal (analysis_failed answers file w.system w.rules budget w.solved unfinished.Spent due w.spent d)

pub report_is_done : AnswersDiffer → (file : List ℕ) (budget : ℕ) (report : List ℕ) (due : Outcome) → IsSymmetriesReport file budget report
    → IsAnalyseDue file budget due → due ≡ Done
report_is_done answers file budget report due r d =
    analysis_done answers file r.system r.rules budget r.solved r.told r.found due r.analysed d
