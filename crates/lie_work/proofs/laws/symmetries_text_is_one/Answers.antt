-- A file has one system, and that one analysis; so it has one report.
use Rattle.std.specs.Prelude.{ℕ, ◌≡◌, List, Option}
use Rattle.std.proofs.Common.{sym, ap, ap₂, ◌∙◌}
use Rattle.lie_math.specs.LinearSystem.{LinearSystem}
use Rattle.lie_system.specs.Systems.{SystemRead}
use Rattle.lie_report.specs.Reports.{Found, symmetries}
use Rattle.lie_report.specs.Report.{report_text}
use Rattle.lie_analysis.specs.Analyses.{IsAnalysis}
use Rattle.lie_analysis.specs.Laws.{AnalysisIsUnique}
use Rattle.lie_work.specs.Analyse.{IsSymmetriesReport}
use Rattle.lie_work.proofs.SolvedFiles.{file_has_space, moved, same_system}
use Rattle.lie_work.proofs.laws.symmetries_text_is_one.Goals as goal

abbrev told_text : SystemRead → LinearSystem → Option Found → List ℕ
told_text s T found = report_text (symmetries (record { space = s.space; names = s.names }) T found)

one_text : AnalysisIsUnique → (bytes first second : List ℕ) (m n : ℕ) → IsSymmetriesReport bytes m first → IsSymmetriesReport bytes n second → first ≡ second
one_text unique bytes first second m n one other =
    let analysis = moved bytes one.system other.system one.rules other.rules (λ v qs. IsAnalysis v.space qs one.analysed.steps one.told one.found) one.solved other.solved one.analysed.analysis in
    let same = unique other.system.space (file_has_space bytes other.system other.solved.file) other.rules one.analysed.steps other.analysed.steps one.told other.told one.found other.found
    analysis other.analysed.analysis in
    one.printed ∙ (ap (λ s. told_text s one.told one.found) (same_system bytes one.system other.system one.rules other.rules one.solved other.solved)
    ∙ (ap₂ (λ T found. told_text other.system T found) same.1 same.2 ∙ sym other.printed))

pub returns : goal.returns
returns c = one_text c.analysis_is_unique.ensures
