-- A repeated study acts once: its row is found again, whatever rows were put and dropped meanwhile.
use Rattle.std.specs.Prelude.{ℕ, ◌≡◌, Bool, true, false, List, [], ◌∷◌, ◌++◌, Some, None, MatchBool}
use Rattle.std.proofs.Common.{sym, ap, subst, ◌∙◌}
use Rattle.lie_outer.specs.Rows.{row_named}
use Rattle.lie_outer.specs.declared.rows.Row.{Row}
use Rattle.lie_desk.specs.Kept.{HasCanonicalText}
use Rattle.lie_desk.specs.Desk.{StudiesFile, IsStudyEntered, IsStudyKept}
use Rattle.lie_desk.specs.Due.{due_kept}
use Rattle.lie_desk.specs.Laws.{KeepsName, same, put, dropped, IsRepeated}
use Rattle.lie_desk.specs.declared.answers.Study.{Study}
use Rattle.lie_desk.proofs.FoundRows.{one_found, found_or_none, found_before, found_last, found_without}

-- the row that a study told of
record IsStudied (name file report : List ℕ) (rows : List Row) : Type 0 where
  row : Row
  found : row_named rows name ≡ Some row
  canonical : HasCanonicalText file row.text
  told : report ≡ row.report

studied : (name file : List ℕ) (budget : ℕ) (study : Study) (before rows : List Row) → StudiesFile name file budget study before rows
    → IsStudied name file study.report rows
studied name file budget study before rows = go study.is_new
  where
    go : (t : Bool) → MatchBool t (IsStudyEntered name file budget study.report before rows) (IsStudyKept name file study.report before rows)
        → IsStudied name file study.report rows
    go true e =
        let free = subst (λ n. row_named before n ≡ None) (sym e.named) e.free in
        let last = subst (λ n. row_named (before ++ e.row ∷ []) n ≡ Some e.row) e.named (found_last before e.row free) in
        record { row = e.row; found = subst (λ rs. row_named rs name ≡ Some e.row) (sym e.put) last; canonical = e.canonical; told = e.told }
    go false k = record { row = k.row; found = subst (λ rs. row_named rs name ≡ Some k.row) (sym k.left) k.found; canonical = k.canonical; told = k.told }

still_found : (name : List ℕ) (row : Row) (rows later : List Row) → KeepsName name rows later → row_named rows name ≡ Some row
    → row_named later name ≡ Some row
still_found name row rows later (same rs) e = e
still_found name row rows later (put last rs ls free rest) e =
    still_found name row (rows ++ last ∷ []) later rest (found_before rows name row last e)
still_found name row rows later (dropped other rs ls differ rest) e =
    still_found name row _ later rest (found_without rows other name row differ e)

again : (name file : List ℕ) (budget : ℕ) (report : List ℕ) (rows : List Row) → IsStudied name file report rows → (study : Study) (rows' : List Row)
    → StudiesFile name file budget study rows rows' → (study.report ≡ report) × (rows' ≡ rows)
again name file budget report rows s study rows' = go study.is_new
  where
    go : (t : Bool) → MatchBool t (IsStudyEntered name file budget study.report rows rows') (IsStudyKept name file study.report rows rows')
        → (study.report ≡ report) × (rows' ≡ rows)
    go true e = absurd (found_or_none rows name s.row s.found e.free)
    go false k = (k.told ∙ (ap (λ (r : Row). r.report) (one_found rows name k.row s.row k.found s.found) ∙ sym s.told), k.left)

pub repeated : (name file : List ℕ) (budget other : ℕ) (first : Study) (before rows later : List Row)
    → StudiesFile name file budget first before rows → KeepsName name rows later → IsRepeated name file other first later
repeated name file budget other first before rows later h keeps =
    let s = studied name file budget first before rows h in
    let found = still_found name s.row rows later keeps s.found in
    let here : IsStudied name file first.report later = record { row = s.row; found = found; canonical = s.canonical; told = s.told } in
    record { due = due_kept s.row found s.canonical; again = again name file other first.report later here }
