-- Files: what is read is a file, and a file is read as its system.
use Rattle.std.specs.Prelude.{ℕ, ◌≡◌, ◌+◌, ◌≤◌, Bool, true, false, ◌==◌, nat_lt, List, [], ◌∷◌, ◌++◌, length, if◌then◌else◌, Option, Some, None, Ok, Err, codes, refl}
use Rattle.std.specs.declared.result.Result.{Result}
use Rattle.std.proofs.Common.{length-append, sym, ap, ◌∙◌, subst, arith}
use Rattle.std.proofs.lemmas.Bool.Decides.{nat_tests}
use Rattle.lie_geometry.specs.Coordinates.{Space}
use Rattle.lie_scan.specs.declared.fault.BadKind.TheVariants.{TooLong}
use Rattle.lie_scan.specs.declared.fault.ReadFail.{ReadFail}
use Rattle.lie_file.specs.declared.lines.FileFail.{FileFail}
use Rattle.lie_system.specs.Systems.{SystemRead}
use Rattle.lie_file.specs.FileLines.{after_header, names_of}
use Rattle.lie_file.specs.Files.{equations_from, space_of, system_of}
use Rattle.lie_scan.specs.Bad.{bad}
use Rattle.lie_file.specs.Places.{not_allowed_from}
use Rattle.lie_file.specs.Reading.{with_place, read_by, read}
use Rattle.lie_file.specs.FileGrammar.{AreSystem, is_allowed, AreAllowed, contents_of, lines_of, IsFile}
use Rattle.lie_scan.proofs.Blanks.{bind_then, guard_then, ok_is}
use Rattle.lie_file.proofs.WordLaws.{IsPlain}
use Rattle.lie_file.proofs.LineLaws.{after_header-is, is-after_header, names_of-is, is-names_of, equations_from-is, is-equations_from}
use Rattle.lie_file.proofs.NameFaults.{append_less}

pub space_is : (independent dependent : List ℕ) → space_of independent (independent ++ dependent) ≡ record { p = length independent; q = length dependent }
space_is independent dependent = ap (λ n. record { p = length independent; q = n }) (append_less independent dependent)

pub system_of-is : (lines : List (List ℕ)) (s : SystemRead) → system_of lines ≡ Ok s → AreSystem (contents_of lines) s
unfolding system_of
system_of-is lines s h =
    bind_then (after_header lines) _ s h (λ ls is_ls h1.
    bind_then (names_of (codes "vars") [] ls) _ s h1 (λ v is_v h2.
    bind_then (names_of (codes "deps") v.0 v.1) _ s h2 (λ d is_d h3.
    bind_then (equations_from (space_of v.0 d.0) d.0 [] d.1) _ s h3 (λ es is_es rest.
    let made : SystemRead = record { space = space_of v.0 d.0; names = d.0; equations = es } in
    let header = after_header-is lines ls is_ls in
    let vars = names_of-is (codes "vars") [] ls v is_v in
    let deps = names_of-is (codes "deps") v.0 v.1 d is_d in
    let body = equations_from-is (space_of v.0 d.0) d.0 [] d.1 es is_es in
    let first : v.0 ≡ vars.names = vars.put in
    let names : d.0 ≡ vars.names ++ deps.names = deps.put ∙ ap (λ l. l ++ deps.names) first in
    let none : 0 ≤ 16 = omega arith in
    let new : es ≡ body.new = body.put in
    subst (AreSystem (contents_of lines)) (ok_is made s rest) (record {
      header = header.0;
      vars = vars.content;
      deps = deps.content;
      body = contents_of d.1;
      independent = vars.names;
      dependent = deps.names;
      lines = header.1 ∙ ap (λ l. header.0 ∷ l) (vars.line ∙ ap (λ l. vars.content ∷ l) deps.line);
      header_is = header.2;
      vars_is = vars.is;
      deps_is = subst (λ b. Rattle.lie_file.specs.FileGrammar.IsNamesLine (codes "deps") b deps.content deps.names) first deps.is;
      body_is = subst (λ fs. Rattle.lie_file.specs.FileGrammar.AreEquations (space_of v.0 d.0) d.0 (contents_of d.1) fs) (sym new) body.are;
      space = ap (λ l. space_of l d.0) first ∙ ap (space_of vars.names) names ∙ space_is vars.names deps.names;
      names = names;
      some = body.some;
      few = body.few none;
    })))))

same_system : (a b : SystemRead) → a.space ≡ b.space → a.names ≡ b.names → a.equations ≡ b.equations → a ≡ b
same_system a b p q r = λ i. record { space = p i; names = q i; equations = r i }

is-system_of : (lines : List (List ℕ)) (s : SystemRead) → AreSystem (contents_of lines) s → system_of lines ≡ Ok s
unfolding system_of
is-system_of lines s h =
    let plain_vars : IsPlain (codes "vars") = (refl, (refl, (refl, (refl, tt)))) in
    let plain_deps : IsPlain (codes "deps") = (refl, (refl, (refl, (refl, tt)))) in
    let header = is-after_header lines h.header (h.vars ∷ h.deps ∷ h.body) h.lines h.header_is in
    let vars = is-names_of (codes "vars") [] header.0 h.vars h.independent (h.deps ∷ h.body) plain_vars header.2 h.vars_is in
    let deps = is-names_of (codes "deps") h.independent vars.0 h.deps h.dependent h.body plain_deps vars.2 h.deps_is in
    let all : List ℕ = h.independent ++ h.dependent in
    let space : space_of h.independent all ≡ s.space = space_is h.independent h.dependent ∙ sym h.space in
    let names : all ≡ s.names = sym h.names in
    let read : equations_from s.space s.names [] deps.0 ≡ Ok s.equations =
    is-equations_from s.space s.names [] deps.0 s.equations (subst (λ b. Rattle.lie_file.specs.FileGrammar.AreEquations s.space s.names b s.equations) (sym deps.2) h.body_is) h.some h.few in
    let body : equations_from (space_of h.independent all) all [] deps.0 ≡ Ok s.equations = ap (λ S. equations_from S all [] deps.0) space ∙ ap (λ l. equations_from s.space l [] deps.0) names ∙ read in
    let made : SystemRead = record { space = space_of h.independent all; names = all; equations = s.equations } in
    rw (header.1, vars.1, deps.1, body) (ap Ok (same_system made s space names refl))

-- ---- bytes
pub allowed-is : (line column : ℕ) (bytes : List ℕ) → not_allowed_from line column bytes ≡ None → AreAllowed bytes
allowed-is line column [] h = tt
allowed-is line column (b ∷ bs) h = go (is_allowed b bs) (b == 10) refl h (allowed-is (line + 1) 1 bs) (allowed-is line (column + 1) bs)
  where
    go : (a e : Bool) → is_allowed b bs ≡ a → (if a then (if e then not_allowed_from (line + 1) 1 bs else not_allowed_from line (column + 1) bs) else Some (line, column)) ≡ None
        → (not_allowed_from (line + 1) 1 bs ≡ None → AreAllowed bs) → (not_allowed_from line (column + 1) bs ≡ None → AreAllowed bs) → (is_allowed b bs ≡ true) × AreAllowed bs
    go true true at k l m = (at, l k)
    go true false at k l m = (at, m k)
    go false e at k l m = cc

pub is-allowed : (line column : ℕ) (bytes : List ℕ) → AreAllowed bytes → not_allowed_from line column bytes ≡ None
is-allowed line column [] h = refl
is-allowed line column (b ∷ bs) h = rw (h.0) (go (b == 10) (is-allowed (line + 1) 1 bs h.1) (is-allowed line (column + 1) bs h.1))
  where
    go : (e : Bool) → not_allowed_from (line + 1) 1 bs ≡ None → not_allowed_from line (column + 1) bs ≡ None → (if e then not_allowed_from (line + 1) 1 bs else not_allowed_from line (column + 1) bs) ≡ None
    go true l m = l
    go false l m = m

-- ---- files
place_then : (lines : List (List ℕ)) (r : Result SystemRead FileFail) (s : SystemRead) → with_place lines r ≡ Ok s → r ≡ Ok s
place_then lines (Ok t) s h = ap Ok (ok_is t s h)
place_then lines (Err e) s h = cc

-- what bytes of any length spell
abbrev pub read_any : List ℕ → Result SystemRead ReadFail
read_any bytes = read_by (not_allowed_from 1 1 bytes) bytes

pub read_any-is : (bytes : List ℕ) (s : SystemRead) → read_any bytes ≡ Ok s → IsFile bytes s
read_any-is bytes s h = go (not_allowed_from 1 1 bytes) refl h
  where
    go : (o : Option (ℕ × ℕ)) → not_allowed_from 1 1 bytes ≡ o → read_by o bytes ≡ Ok s → IsFile bytes s
    go (Some p) at e = cc
    go None at e = record { allowed = allowed-is 1 1 bytes at; system = system_of-is (lines_of bytes) s (place_then (lines_of bytes) (system_of (lines_of bytes)) s e) }

pub is-read_any : (bytes : List ℕ) (s : SystemRead) → IsFile bytes s → read_any bytes ≡ Ok s
is-read_any bytes s h = rw (is-allowed 1 1 bytes h.allowed, is-system_of (lines_of bytes) s h.system) refl

pub read-is : (bytes : List ℕ) (s : SystemRead) → read bytes ≡ Ok s → IsFile bytes s × (length bytes ≤ 65536)
unfolding read
read-is bytes s h =
    let g = guard_then (nat_lt 65536 (length bytes)) (bad 1 1 TooLong) (read_any bytes) s h in
    (read_any-is bytes s g.1, grind (arith, nat_tests, g.0))

pub is-read : (bytes : List ℕ) (s : SystemRead) → IsFile bytes s → length bytes ≤ 65536 → read bytes ≡ Ok s
unfolding read
is-read bytes s h short = let test : nat_lt 65536 (length bytes) ≡ false = grind (arith, nat_tests, short) in rw test (is-read_any bytes s h)

-- a text is the file of one system at most
pub one_system : (bytes : List ℕ) (s t : SystemRead) → IsFile bytes s → IsFile bytes t → s ≡ t
one_system bytes s t h k = ok_is s t (sym (is-read_any bytes s h) ∙ is-read_any bytes t k)

-- ---- names
pub file_names : (bytes : List ℕ) (s : SystemRead) → IsFile bytes s → length s.names ≡ s.space.p + s.space.q
file_names bytes s h =
    let a = h.system in
    ap length a.names ∙ length-append a.independent a.dependent ∙ sym (ap (λ (S : Space). S.p + S.q) a.space)
