-- What a draft keeps, and systems that are told by their drafts.
use Rattle.std.specs.Prelude.{ℕ, ◌≡◌, ◌+◌, ◌-◌, ◌<◌, ◌≤◌, ◌^◌, ◌==◌, suc, ◌&&◌, nat_le, nat_lt, Bool, true, false, List, [], ◌∷◌, ◌++◌, length, map, take, drop, Option, Some, None, Ok, Err, MatchOption, if◌then◌else◌, refl}
use Rattle.std.specs.declared.result.Result.{Result}
use Rattle.std.specs.Global.{Vec}
use Rattle.std.specs.List.{slice_split, AllByRecursion as Every}
use Rattle.std.proofs.Common.{sym, ap, ap₂, ◌∙◌, subst, arith}
use Rattle.std.proofs.lemmas.Bool.Decides.{nat_tests}
use Rattle.std.proofs.lemmas.List.{length-append}
use Rattle.lie_math.specs.LinearSystem.{Unknown, LinearSystem}
use Rattle.lie_print.specs.Printing.{PrintedTerm}
use Rattle.lie_print.specs.declared.printed_term.Term.{Term}
use Rattle.lie_report.specs.Reports.{Named, determining, report_of}
use Rattle.lie_report.specs.Report.{report_text}
use Rattle.lie_report.specs.declared.reports.Report as kept
use Rattle.lie_scan.proofs.Blanks.{and_true}
use Rattle.lie_readback.specs.Readings.{◌>>=◌, read_each, Fails, Finds}
use Rattle.lie_readback.specs.declared.unread.Unread.{Unread}
use Rattle.lie_readback.specs.declared.unread.Unread.TheVariants.{Other, NoMemory}
use Rattle.lie_readback.specs.DraftViews.{terms_seen}
use Rattle.lie_readback.specs.Groups.{written_terms, drafted}
use Rattle.lie_readback.specs.Sums.{read_sum}
use Rattle.lie_readback.specs.SystemDrafts.{Draft, names_in, are_names, is_count, read_named, free_lines, behind_free, unknowns_in, variables_in, read_component, named_size, read_forms, read_system, read_lines}
use Rattle.lie_readback.specs.WellFormed.{AreNamed, AreNumberedFrom, IsReportedForm, IsWellFormed, IsWellDrafted}
use Rattle.lie_readback.proofs.LineTexts.{names_are_letters}
use Rattle.lie_readback.proofs.ToldSystems.{system_is}
use Rattle.lie_math.specs.LinearForm.{LinearForm}

pub terms_none : (xs : List (Vec Term)) → length xs ≡ 0 → map terms_seen xs ≡ []
terms_none [] e = refl
terms_none (x ∷ xs) e = absurd (omega arith)

-- ---- what is read has names and numbered unknowns
pub bind_some : {A B R : Type 0} (o : Option A) (f : A → Option B) (y : B) → (o >>= f) ≡ Some y → ((x : A) → o ≡ Some x → f x ≡ Some y → R) → R
bind_some (Some x) f y h k = k x refl h
bind_some None f y h k = cc

pub some_is : {A : Type 0} (x y : A) → ◌≡◌ {A = Option A} (Some x) (Some y) → x ≡ y
some_is x y h = cc

pub guard_some : {A : Type 0} (b : Bool) (o : Option A) (y : A) → (if b then o else None) ≡ Some y → (b ≡ true) × (o ≡ Some y)
guard_some true o y h = (refl, h)
guard_some false o y h = cc

guard_none : {A : Type 0} (b : Bool) (o : Option A) (y : A) → (if b then None else o) ≡ Some y → o ≡ Some y
guard_none true o y h = cc
guard_none false o y h = h

numbered_unknowns : (names : List ℕ) (n : ℕ) (ls : List (List ℕ)) → AreNumberedFrom n (unknowns_in names n ls)
numbered_unknowns names n [] = tt
numbered_unknowns names n (l ∷ ls) = (refl, numbered_unknowns names (n + 1) ls)

length_unknowns : (names : List ℕ) (n : ℕ) (ls : List (List ℕ)) → length (unknowns_in names n ls) ≡ length ls
length_unknowns names n [] = refl
length_unknowns names n (l ∷ ls) = ap suc (length_unknowns names (n + 1) ls)

counted : (n : ℕ) → is_count n ≡ true → (1 ≤ n) × (n ≤ 4)
counted n e = let p = and_true (nat_le 1 n) (nat_le n 4) e in (grind (arith, nat_tests, p.0), grind (arith, nat_tests, p.1))

pub named_good : (vars deps : List ℕ) (N : Named) → read_named vars deps ≡ Some N → AreNamed N
unfolding read_named
named_good vars deps N h =
    let g = guard_some (is_count (length (names_in vars)) && (is_count (length (names_in deps)) && are_names (names_in vars ++ names_in deps))) _ N h in
    let a = and_true (is_count (length (names_in vars))) (is_count (length (names_in deps)) && are_names (names_in vars ++ names_in deps)) g.0 in
    let b = and_true (is_count (length (names_in deps))) (are_names (names_in vars ++ names_in deps)) a.1 in
    let p = counted (length (names_in vars)) a.0 in
    let q = counted (length (names_in deps)) b.0 in
    subst AreNamed (some_is _ N g.1) (record {
      small = record { some_p = p.0; few_p = p.1; some_q = q.0; few_q = q.1 };
      each = length-append (names_in vars) (names_in deps);
      letters = names_are_letters (names_in vars ++ names_in deps) b.1;
    })

forms_keep : (N : Named) (us : List Unknown) (lines : List (List ℕ)) (D : Draft) → read_forms N us lines ≡ Some D → (D.named ≡ N) × (D.unknowns ≡ us)
unfolding read_forms
forms_keep N us lines D h =
    bind_some (read_each (read_component N.names) [] (take (named_size N) lines)) _ D (guard_none (nat_lt (length lines) (named_size N + 3)) _ D h) (λ gs a more.
    bind_some (read_each (read_sum N.names) [] (take (length lines - (named_size N + 3)) (drop (named_size N + 1) lines))) _ D more (λ Es b last.
    let is = some_is _ D last in
    (sym (ap (λ (x : Draft). x.named) is), sym (ap (λ (x : Draft). x.unknowns) is))))

system_good : (N : Named) (lines : List (List ℕ)) (D : Draft) → AreNamed N → read_system N lines ≡ Some D → IsWellDrafted D
unfolding read_system
system_good N lines D named h =
    let g = guard_some (nat_lt (length (free_lines lines) + 1) (2 ^ 32)) (read_forms N (unknowns_in N.names 1 (free_lines lines)) (behind_free lines)) D h in
    let few : length (free_lines lines) + 1 < 2 ^ 32 = let t = g.0 in grind (arith, nat_tests, t) in
    let k = forms_keep N (unknowns_in N.names 1 (free_lines lines)) (behind_free lines) D g.1 in
    record {
      named = subst AreNamed (sym k.0) named;
      numbered = subst (AreNumberedFrom 1) (sym k.1) (numbered_unknowns N.names 1 (free_lines lines));
      few = subst (λ (us : List Unknown). length us + 1 < 2 ^ 32) (sym k.1) (let l = length_unknowns N.names 1 (free_lines lines) in omega arith);
    }

pub lines_good : (ls : List (List ℕ)) (D : Draft) → read_lines ls ≡ Some D → IsWellDrafted D
lines_good [] D h = cc
lines_good (a ∷ []) D h = cc
lines_good (a ∷ b ∷ []) D h = cc
lines_good (a ∷ vars ∷ deps ∷ body) D h = bind_some (read_named vars deps) (λ N. read_system N body) D h (λ N is more. system_good N body D (named_good vars deps N is) more)

-- ---- parts of a system that is written
pub part_err : {X : Type 0} (view : X → Named × LinearSystem) (D : Draft) (part : Named × LinearSystem → List LinearForm) (gs : List (List PrintedTerm)) → ((s : Named × LinearSystem) → IsWellFormed s → Every IsReportedForm (part s))
    → ((s : Named × LinearSystem) → drafted s ≡ D → map written_terms (part s) ≡ gs) → (e : Unread) → Finds {X = Vec LinearForm} (λ Es. Es.items) (Every IsReportedForm) (map written_terms) gs (Err e) → Finds view IsWellFormed drafted D (Err e)
part_err view D part gs good told Other h = λ s w is. h (part s) (good s w) (told s is)
part_err view D part gs good told NoMemory h = tt

-- the system that is written so
pub system_same : (D : Draft) (s : Named × LinearSystem) (us : List Unknown) (Es gs : List LinearForm) (n : ℕ) → IsWellFormed s → drafted s ≡ D → us ≡ D.unknowns → n ≡ length us + 1
    → ((xs : List LinearForm) → Every IsReportedForm xs → map written_terms xs ≡ D.equations → Es ≡ xs) → ((xs : List LinearForm) → Every IsReportedForm xs → map written_terms xs ≡ D.general → gs ≡ xs)
    → record { unknowns = us; equations = Es; general = gs; next = n } ≡ s.1
system_same D s us Es gs n w is u m equations general =
    let same : us ≡ s.1.unknowns = u ∙ sym (ap (λ (x : Draft). x.unknowns) is) in
    system_is (record { unknowns = us; equations = Es; general = gs; next = n }) s.1 same (equations s.1.equations (w.1).equations (ap (λ (x : Draft). x.equations) is))
    (general s.1.general (w.1).general (ap (λ (x : Draft). x.general) is)) (m ∙ ap (λ (vs : List Unknown). length vs + 1) same ∙ sym (w.1).next)
