-- Faults of files: what stops the reader is a fault of the grammar, and each such fault stops it. A text has one system, or one fault.
use Rattle.std.specs.Prelude.{ℕ, ◌≡◌, ◌≤◌, ◌⊎◌, Bool, true, false, nat_lt, List, [], ◌++◌, length, Option, Some, None, Ok, Err, codes, refl}
use Rattle.std.specs.declared.result.Result.{Result}
use Rattle.std.proofs.Common.{sym, ap, ◌∙◌, subst, inl, inr, arith, true≢false}
use Rattle.std.proofs.lemmas.Bool.Decides.{nat_tests}
use Rattle.lie_geometry.specs.Coordinates.{Space}
use Rattle.lie_scan.specs.declared.fault.BadKind.TheVariants.{TooLong, NotAscii, Header}
use Rattle.lie_scan.specs.declared.fault.ReadFail.{ReadFail}
use Rattle.lie_file.specs.declared.lines.FileFail.{FileFail}
use Rattle.lie_file.specs.declared.lines.FileFail.TheVariants as fails
use Rattle.lie_scan.specs.Runs.{after_blanks}
use Rattle.lie_system.specs.Systems.{SystemRead}
use Rattle.lie_file.specs.Places.{next_line, fault_at, file_fault, not_allowed_from}
use Rattle.lie_scan.specs.Bad.{bad}
use Rattle.lie_file.specs.FileLines.{is_header, header_by, after_header, names_of}
use Rattle.lie_file.specs.Files.{equations_from, space_of, system_of}
use Rattle.lie_file.specs.Reading.{with_place, read_by, read}
use Rattle.lie_file.specs.FileGrammar.{IsHeader, IsNamesLine, lines_of, IsFile}
use Rattle.lie_file.specs.FileFaults.{IsNext, IsLinesFault, no_header, other_header, in_vars, in_deps, in_equations, IsFault, too_long, not_allowed, in_lines}
use Rattle.lie_file.proofs.WordLaws.{IsPlain, word_is, is-is_word, is_header-is, is-is_header, is-names_at}
use Rattle.lie_file.proofs.LineLaws.{after_header-is, names_of-is}
use Rattle.lie_file.proofs.FileLaws.{space_is, allowed-is, is-allowed, read_any, read-is}
use Rattle.lie_scan.proofs.CoordinateFaults.{err_is, bind_fails, test_fails, other_fails}
use Rattle.lie_file.proofs.NameFaults.{names_of-fails, is-names_line_fault}
use Rattle.lie_file.proofs.BodyFaults.{IsBodyFault, equations_from-fails, is-body_fault}

plain_vars : IsPlain (codes "vars")
plain_vars = (refl, (refl, (refl, (refl, tt))))

plain_deps : IsPlain (codes "deps")
plain_deps = (refl, (refl, (refl, (refl, tt))))

after_header-fails : (lines : List (List ℕ)) (f : FileFail) → after_header lines ≡ Err f → IsLinesFault lines f
unfolding after_header
after_header-fails lines f h = go (next_line lines) refl h
  where
    go : (o : Option (List ℕ × List (List ℕ))) → next_line lines ≡ o → header_by o (length lines) ≡ Err f → IsLinesFault lines f
    go None at e = subst (IsLinesFault lines) (err_is (fails.Fault (record { kind = Header; lines_left = length lines; column = 1 })) f e) (no_header at)
    go (Some x) at e = other_fails (is_header x.0) (fault_at Header x.0 (length x.1) (after_blanks x.0)) f (Ok x.1) e
        (λ other same. subst (IsLinesFault lines) same (other_header x.0 x.1 at (λ is. true≢false (sym (is-is_header x.0 is) ∙ other))))
        (λ header k. cc)

no_header_is : (content : List ℕ) → (IsHeader content → ⊥) → is_header content ≡ false
no_header_is content h = go (is_header content) refl
  where
    go : (b : Bool) → is_header content ≡ b → b ≡ false
    go false e = refl
    go true e = absurd (h (is_header-is content e))

header_next : (lines : List (List ℕ)) (content : List ℕ) (behind : List (List ℕ)) → IsNext lines content behind → IsHeader content → after_header lines ≡ Ok behind
unfolding after_header
header_next lines content behind next is = rw (next, is-is_header content is) refl

names_next : (keyword before : List ℕ) (lines : List (List ℕ)) (content names : List ℕ) (behind : List (List ℕ)) → IsPlain keyword → IsNext lines content behind → IsNamesLine keyword before content names
    → names_of keyword before lines ≡ Ok (before ++ names, behind)
unfolding names_of
names_next keyword before lines content names behind plain next is =
    rw (next, is-is_word keyword content is.behind plain is.word, (word_is keyword content is.behind plain is.word).1, is-names_at before is.behind names is.rest is.are is.ends is.some is.few) refl

-- ---- the lines
system_of-fails : (lines : List (List ℕ)) (f : FileFail) → system_of lines ≡ Err f → IsLinesFault lines f
unfolding system_of
system_of-fails lines f h =
    bind_fails (after_header lines) _ f h (after_header-fails lines f) (λ ls is_ls h1.
    let header = after_header-is lines ls is_ls in
    bind_fails (names_of (codes "vars") [] ls) _ f h1 (λ e. in_vars header.0 ls f header.3 header.2 (names_of-fails (codes "vars") [] ls f plain_vars e)) (λ v is_v h2.
    let vars = names_of-is (codes "vars") [] ls v is_v in
    let first : v.0 ≡ vars.names = vars.put in
    bind_fails (names_of (codes "deps") v.0 v.1) _ f h2
    (λ e. in_deps header.0 vars.content vars.names ls v.1 f header.3 header.2 vars.next vars.is
    (names_of-fails (codes "deps") vars.names v.1 f plain_deps (ap (λ b. names_of (codes "deps") b v.1) (sym first) ∙ e))) (λ d is_d h3.
    let deps = names_of-is (codes "deps") v.0 v.1 d is_d in
    let all : d.0 ≡ vars.names ++ deps.names = deps.put ∙ ap (λ l. l ++ deps.names) first in
    let space : space_of v.0 d.0 ≡ record { p = length vars.names; q = length deps.names } = ap (λ l. space_of l d.0) first ∙ ap (space_of vars.names) all ∙ space_is vars.names deps.names in
    bind_fails (equations_from (space_of v.0 d.0) d.0 [] d.1) _ f h3
    (λ e.
    let S : Space = record { p = length vars.names; q = length deps.names } in
    let same : equations_from S (vars.names ++ deps.names) [] d.1 ≡ Err f =
    ap (λ T. equations_from T (vars.names ++ deps.names) [] d.1) (sym space) ∙ ap (λ l. equations_from (space_of v.0 d.0) l [] d.1) (sym all) ∙ e in
    let body : IsBodyFault S (vars.names ++ deps.names) [] d.1 f = equations_from-fails S (vars.names ++ deps.names) [] d.1 f (omega arith) same in
    in_equations header.0 vars.content deps.content vars.names deps.names ls v.1 d.1 body.left body.new f header.3 header.2 vars.next vars.is deps.next
    (subst (λ b. IsNamesLine (codes "deps") b deps.content deps.names) first deps.is) body.are body.few body.fault)
    (λ es is_es k. cc))))

is-lines_fault : (lines : List (List ℕ)) (f : FileFail) → IsLinesFault lines f → system_of lines ≡ Err f
unfolding system_of after_header
is-lines_fault lines f (no_header none) = rw none refl
is-lines_fault lines f (other_header content behind next other) = rw (next, no_header_is content other) refl
is-lines_fault lines f (in_vars header behind g next is fault) = rw (header_next lines header behind next is) (rw (is-names_line_fault (codes "vars") [] behind g plain_vars fault) refl)
is-lines_fault lines f (in_deps header vars independent behind rest g next is next_vars vars_is fault) =
    rw (header_next lines header behind next is) (rw (names_next (codes "vars") [] behind vars independent rest plain_vars next_vars vars_is) (rw (is-names_line_fault (codes "deps") independent rest g plain_deps fault) refl))
is-lines_fault lines f (in_equations header vars deps independent dependent behind rest body left before g next is next_vars vars_is next_deps deps_is are few fault) =
    let S : Space = record { p = length independent; q = length dependent } in
    let all : List ℕ = independent ++ dependent in
    let stops : equations_from (space_of independent all) all [] body ≡ Err g = ap (λ T. equations_from T all [] body) (space_is independent dependent) ∙ is-body_fault S all [] body before left g are few fault in
    rw (header_next lines header behind next is) (rw (names_next (codes "vars") [] behind vars independent rest plain_vars next_vars vars_is)
    (rw (names_next (codes "deps") independent rest deps dependent body plain_deps next_deps deps_is) (rw stops refl)))

-- ---- files
lines_fail : (bytes : List ℕ) (r : Result SystemRead FileFail) (f : ReadFail) → system_of (lines_of bytes) ≡ r → with_place (lines_of bytes) r ≡ Err f → length bytes ≤ 65536
    → not_allowed_from 1 1 bytes ≡ None → IsFault bytes f
lines_fail bytes (Ok s) f at e short none = cc
lines_fail bytes (Err g) f at e short none =
    subst (IsFault bytes) (err_is (file_fault (lines_of bytes) g) f e) (in_lines g short (allowed-is 1 1 bytes none) (system_of-fails (lines_of bytes) g at))

pub read-fails : (bytes : List ℕ) (f : ReadFail) → read bytes ≡ Err f → IsFault bytes f
unfolding read
read-fails bytes f h =
    test_fails (nat_lt 65536 (length bytes)) (bad 1 1 TooLong) f (read_any bytes) h
    (λ long same. subst (IsFault bytes) same (too_long (grind (arith, nat_tests, long))))
    (λ short more. go (grind (arith, nat_tests, short)) (not_allowed_from 1 1 bytes) refl more)
  where
    go : length bytes ≤ 65536 → (o : Option (ℕ × ℕ)) → not_allowed_from 1 1 bytes ≡ o → read_by o bytes ≡ Err f → IsFault bytes f
    go short (Some p) at e = subst (IsFault bytes) (err_is (bad p.0 p.1 NotAscii) f e) (not_allowed p.0 p.1 short at)
    go short None at e = lines_fail bytes (system_of (lines_of bytes)) f refl e short at

pub is-fault : (bytes : List ℕ) (f : ReadFail) → IsFault bytes f → read bytes ≡ Err f
unfolding read
is-fault bytes f (too_long long) = let past : nat_lt 65536 (length bytes) ≡ true = grind (arith, nat_tests, long) in rw past refl
is-fault bytes f (not_allowed line column short first) = let low : nat_lt 65536 (length bytes) ≡ false = grind (arith, nat_tests, short) in rw (low, first) refl
is-fault bytes f (in_lines g short allowed fault) =
    let low : nat_lt 65536 (length bytes) ≡ false = grind (arith, nat_tests, short) in
    rw (low, is-allowed 1 1 bytes allowed, is-lines_fault (lines_of bytes) g fault) refl

-- ---- a system or a fault
pub one_fault : (bytes : List ℕ) (f g : ReadFail) → IsFault bytes f → IsFault bytes g → f ≡ g
one_fault bytes f g h k = err_is f g (sym (is-fault bytes f h) ∙ is-fault bytes g k)

pub system_or_fault : (bytes : List ℕ)
    → ((s : SystemRead) × IsFile bytes s × ((f : ReadFail) → IsFault bytes f → ⊥)) ⊎ ((f : ReadFail) × IsFault bytes f)
system_or_fault bytes = go (read bytes) refl
  where
    clash : (s : SystemRead) (f : ReadFail) → ◌≡◌ {A = Result SystemRead ReadFail} (Ok s) (Err f) → ⊥
    clash s f e = cc

    go : (r : Result SystemRead ReadFail) → read bytes ≡ r → ((s : SystemRead) × IsFile bytes s × ((f : ReadFail) → IsFault bytes f → ⊥)) ⊎ ((f : ReadFail) × IsFault bytes f)
    go (Ok s) e = inl (s, (read-is bytes s e).0, λ f h. clash s f (sym e ∙ is-fault bytes f h))
    go (Err f) e = inr (f, read-fails bytes f e)
