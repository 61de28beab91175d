-- Files of one canonical text have one report.
use Rattle.std.specs.Prelude.{ℕ, ◌≡◌, List, refl}
use Rattle.std.proofs.Common.{sym, ap, subst, ◌∙◌}
use Rattle.lie_geometry.specs.Coordinates.{Space}
use Rattle.lie_geometry.specs.SolvedEquations.{SolvedEquation}
use Rattle.lie_ring.specs.Rankings.{degree_rank}
use Rattle.lie_ring.specs.DegreeRanking.{degree_rank_is_ranking}
use Rattle.lie_system.specs.LeadsAlone.{with_leads}
use Rattle.lie_system.specs.Systems.{SystemRead}
use Rattle.lie_system.specs.Written.{IsWrittenSystem}
use Rattle.lie_file.specs.FileGrammar.{IsFile}
use Rattle.lie_file.proofs.FileEquations.{file_is_written}
use Rattle.lie_file.proofs.FileLaws.{one_system}
use Rattle.lie_solved.specs.Laws.{LeadsKeepSolvedForm}
use Rattle.lie_solved.specs.SolvedForms.{IsSolvedForm}
use Rattle.lie_canonical.specs.CanonicalText.{canonical_text}
use Rattle.lie_report.specs.Reports.{symmetries}
use Rattle.lie_report.specs.Report.{report_text}
use Rattle.lie_analysis.specs.Answers.{IsAnalysed}
use Rattle.lie_analysis.specs.Symmetries.{IsSymmetries}
use Rattle.lie_work.specs.Analyse.{IsSymmetriesReport}
use Rattle.lie_work.proofs.SolvedFiles.{same_system}
use Rattle.lie_desk.specs.Kept.{HasCanonicalText, HasReport}
use Rattle.lie_desk.specs.Laws.{CanonicalTextIsOne, CanonicalTextFixesReport}

abbrev CanonicalTextsAreFiles : Type 0
CanonicalTextsAreFiles = (s : SystemRead) → IsWrittenSystem s → IsFile (canonical_text s) (with_leads s)

pub text_is_one : CanonicalTextIsOne
text_is_one file first second h g =
    h.printed ∙ (ap canonical_text (same_system file h.system g.system h.rules g.rules h.solved g.solved) ∙ sym g.printed)

-- systems of one canonical text are the same where each derivative that stands alone is a lead
same_with_leads : CanonicalTextsAreFiles → (file other : List ℕ) (s t : SystemRead) → IsFile file s → IsFile other t
    → canonical_text s ≡ canonical_text t → with_leads s ≡ with_leads t
same_with_leads files file other s t f g e =
    one_system (canonical_text s) (with_leads s) (with_leads t) (files s (file_is_written file s f))
    (subst (λ text. IsFile text (with_leads t)) (sym e) (files t (file_is_written other t g)))

-- and so they have the same solved form
same_form : LeadsKeepSolvedForm → (s t : SystemRead) (rs : List SolvedEquation) → IsWrittenSystem s → IsWrittenSystem t → with_leads s ≡ with_leads t
    → IsSolvedForm s.space s.equations rs → IsSolvedForm t.space t.equations rs
same_form leads s t rs written other e form =
    let kept = (leads degree_rank degree_rank_is_ranking s written.small rs).1 form in
    (leads degree_rank degree_rank_is_ranking t other.small rs).0 (subst (λ v. IsSolvedForm v.space v.equations rs) e kept)

other_report : LeadsKeepSolvedForm → (file other report : List ℕ) (budget : ℕ)
    → (h : IsSymmetriesReport file budget report) → (g : HasCanonicalText other (canonical_text h.system)) → with_leads h.system ≡ with_leads g.system
    → IsSymmetriesReport other budget report
other_report leads file other report budget h g e =
    let space : h.system.space ≡ g.system.space = ap (λ v. v.space) e in
    record {
      system = g.system;
      rules = h.rules;
      told = h.told;
      found = h.found;
      solved = record {
        file = g.solved.file;
        short = g.solved.short;
        form = same_form leads h.system g.system h.rules (file_is_written file h.system h.solved.file) (file_is_written other g.system g.solved.file) e h.solved.form;
      };
      analysed = subst (λ S. IsAnalysed S h.rules budget h.told h.found) space h.analysed;
      printed = h.printed ∙ ap (λ v. report_text (symmetries (record { space = v.space; names = v.names }) h.told h.found)) e;
      meaning = subst (λ S. IsSymmetries S h.rules h.told h.found) space h.meaning;
    }

pub text_fixes_report : CanonicalTextsAreFiles → LeadsKeepSolvedForm → CanonicalTextFixesReport
text_fixes_report files leads file other text report h g r =
    let m = r.made in
    let own : HasCanonicalText file (canonical_text m.system) = record { system = m.system; rules = m.rules; solved = m.solved; printed = refl } in
    let same : canonical_text m.system ≡ text = text_is_one file (canonical_text m.system) text own h in
    let theirs : HasCanonicalText other (canonical_text m.system) = record { system = g.system; rules = g.rules; solved = g.solved; printed = same ∙ g.printed } in
    let e = same_with_leads files file other m.system g.system m.solved.file g.solved.file (same ∙ g.printed) in
    record { budget = r.budget; made = other_report leads file other report r.budget m theirs e }
