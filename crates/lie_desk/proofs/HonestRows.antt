-- Honest rows: a study of them tells a report of its file, and they stay honest.
use Rattle.std.specs.Prelude.{◌≡◌, ℕ, Bool, true, false, List, [], ◌∷◌, ◌++◌, Option, Some, None, Result, Ok, Err, IfOk, IfSome, MatchBool}
use Rattle.std.specs.List.{AllByRecursion as Every}
use Rattle.std.proofs.Common.{sym, subst}
use Rattle.lie_math.proofs.EveryElement.{every-append}
use Rattle.lie_outer.specs.declared.rows.Row.{Row}
use Rattle.lie_outer.specs.Rows.{row_named}
use Rattle.lie_outer.proofs.DifferingNames.{NamesDiffer-push, NamesDiffer-without}
use Rattle.lie_desk.specs.declared.answers.DeskFail.{DeskFail}
use Rattle.lie_desk.specs.declared.answers.Study.{Study}
use Rattle.lie_desk.specs.Desk.{DeskAnswers, StudiesFile, IsStudyEntered, IsStudyKept, DropsStudy}
use Rattle.lie_desk.specs.Kept.{HasReport, IsHonestRow, AreHonest}
use Rattle.lie_desk.specs.Laws.{CanonicalTextFixesReport}
use Rattle.lie_desk.proofs.FoundRows.{found_is, every-without}

-- ---- the report that is told
kept_report : CanonicalTextFixesReport → (name file report : List ℕ) (rows rows' : List Row) → AreHonest rows
    → IsStudyKept name file report rows rows' → HasReport file report
kept_report fixes name file report rows rows' honest kept =
    let row = found_is IsHonestRow rows name kept.row honest.1 kept.found in
    subst (HasReport file) (sym kept.told) (fixes row.file file kept.row.text kept.row.report row.text kept.canonical row.report)

entered_report : (name file : List ℕ) (budget : ℕ) (report : List ℕ) (rows rows' : List Row) → IsStudyEntered name file budget report rows rows'
    → HasReport file report
entered_report name file budget report rows rows' h = subst (HasReport file) (sym h.told) (record { budget = budget; made = h.made })

told_report : CanonicalTextFixesReport → (name file : List ℕ) (budget : ℕ) (study : Study) (rows rows' : List Row) → AreHonest rows
    → StudiesFile name file budget study rows rows' → HasReport file study.report
told_report fixes name file budget study rows rows' honest = go study.is_new
  where
    go : (t : Bool) → MatchBool t (IsStudyEntered name file budget study.report rows rows') (IsStudyKept name file study.report rows rows')
        → HasReport file study.report
    go true h = entered_report name file budget study.report rows rows' h
    go false h = kept_report fixes name file study.report rows rows' honest h

pub report_is_of_file : CanonicalTextFixesReport → (name file : List ℕ) (budget : ℕ) (old new : Option (List Row)) (result : Result Study DeskFail)
    → DeskAnswers (StudiesFile name file budget) old new result
    → IfSome old (λ rows. AreHonest rows → IfOk result (λ study. HasReport file study.report))
report_is_of_file fixes name file budget None new result h = tt
report_is_of_file fixes name file budget (Some rows) new (Err fail) h = λ honest. tt
report_is_of_file fixes name file budget (Some rows) None (Ok study) h = absurd h
report_is_of_file fixes name file budget (Some rows) (Some rows') (Ok study) h = λ honest. told_report fixes name file budget study rows rows' honest h

-- ---- the rows
entered_honest : (name file : List ℕ) (budget : ℕ) (report : List ℕ) (rows rows' : List Row) → IsStudyEntered name file budget report rows rows'
    → AreHonest rows → AreHonest rows'
entered_honest name file budget report rows rows' h honest =
    let free = subst (λ n. row_named rows n ≡ None) (sym h.named) h.free in
    let kept : IsHonestRow h.row = record { file = file; text = h.canonical; report = record { budget = budget; made = h.made } } in
    subst AreHonest (sym h.put) (NamesDiffer-push rows h.row honest.0 free, every-append IsHonestRow rows (h.row ∷ []) honest.1 (kept, tt))

study_honest : (name file : List ℕ) (budget : ℕ) (study : Study) (rows rows' : List Row) → StudiesFile name file budget study rows rows'
    → AreHonest rows → AreHonest rows'
study_honest name file budget study rows rows' = go study.is_new
  where
    go : (t : Bool) → MatchBool t (IsStudyEntered name file budget study.report rows rows') (IsStudyKept name file study.report rows rows')
        → AreHonest rows → AreHonest rows'
    go true h honest = entered_honest name file budget study.report rows rows' h honest
    go false h honest = subst AreHonest (sym h.left) honest

drop_honest : {T : Type 0} (name : List ℕ) (done : T) (rows rows' : List Row) → DropsStudy name done rows rows' → AreHonest rows → AreHonest rows'
drop_honest name done rows rows' h honest =
    subst AreHonest (sym h.1) (NamesDiffer-without rows name honest.0, every-without IsHonestRow rows name honest.1)

-- an answer keeps what its change keeps
answer_keeps : {X : Type 0} (Q : List Row → Type 0) (does : X → List Row → List Row → Type 0) (old new : Option (List Row)) (result : Result X DeskFail)
    → ((x : X) (rows rows' : List Row) → does x rows rows' → Q rows → Q rows') → DeskAnswers does old new result
    → IfSome old (λ rows. Q rows → IfSome new Q)
answer_keeps Q does None new result keeps h = tt
answer_keeps Q does (Some rows) new (Err fail) keeps h = λ q. rw h q
answer_keeps Q does (Some rows) None (Ok x) keeps h = absurd h
answer_keeps Q does (Some rows) (Some rows') (Ok x) keeps h = λ q. keeps x rows rows' h q

pub study_keeps_honest : (name file : List ℕ) (budget : ℕ) (old new : Option (List Row)) (result : Result Study DeskFail)
    → DeskAnswers (StudiesFile name file budget) old new result → IfSome old (λ rows. AreHonest rows → IfSome new AreHonest)
study_keeps_honest name file budget old new result = answer_keeps AreHonest _ old new result (study_honest name file budget)

pub drop_keeps_honest : {T : Type 0} (name : List ℕ) (old new : Option (List Row)) (result : Result T DeskFail)
    → DeskAnswers (DropsStudy name) old new result → IfSome old (λ rows. AreHonest rows → IfSome new AreHonest)
drop_keeps_honest name old new result = answer_keeps AreHonest _ old new result (drop_honest name)
