-- The canonical text of a written system is a file of it, with its leads.
use Rattle.std.specs.Prelude.{
  ℕ,
  ◌+◌,
  ◌≡◌,
  ◌≤◌,
  ◌<◌,
  ◌==◌,
  nat_le,
  Bool,
  true,
  false,
  ◌&&◌,
  ◌||◌,
  if◌then◌else◌,
  List,
  [],
  ◌∷◌,
  ◌++◌,
  length,
  map,
  take,
  drop,
  codes,
  Option,
  Some,
  None,
  IfSome,
  refl,
}
use Rattle.std.specs.List.{All, flat_map, AllByRecursion as Every}
use Rattle.std.proofs.Common.{sym, ap, ap₂, subst, ◌∙◌, arith, append_assoc}
use Rattle.std.proofs.Math.Seq.{take-append_seam, drop-append_seam}
use Rattle.std.proofs.lemmas.Bool.Decides.{nat_tests}
use Rattle.std.proofs.lemmas.List.Elements.{All-from_recursion}
use Rattle.std.proofs.lemmas.List.{append-nil, length-append, length-map, length-take-le, length-drop, take-append-drop}
use Rattle.lie_geometry.specs.Coordinates.{Space, Coordinate}
use Rattle.lie_jet.specs.Jets.{IsSmall}
use Rattle.lie_canonical.specs.CanonicalText.{polynomial_text, right_side, sides_text, equation_text, canonical_text}
use Rattle.lie_system.specs.LeadsAlone.{lead_alone, lead_or, with_lead, with_leads}
use Rattle.lie_system.specs.Systems.{EquationRead, SystemRead}
use Rattle.lie_system.specs.Written.{IsLow, IsWritten, AreWritten, HasRoomBeside, HasWrittenSides, IsWrittenSystem}
use Rattle.lie_print.specs.Printing.{names_line, coordinate_text}
use Rattle.lie_scan.specs.SumGrammar.{IsEquation}
use Rattle.lie_file.specs.FileGrammar.{AreEquations, begins_line_end, is_allowed, AreAllowed, IsFile}
use Rattle.lie_scan.proofs.Blanks.{no_blanks, and_true}
use Rattle.lie_file.proofs.DistinctNames.{AreDistinct, distinct_alone}
use Rattle.lie_canonical.proofs.CanonicalTerms.{diff_low, right_low, read_small}
use Rattle.lie_canonical.proofs.CanonicalLeads.{unsolved_lead}
use Rattle.lie_canonical.proofs.PrintedBytes.{
  ArePlain,
  join,
  names_plain,
  plain_names,
  plain_coordinate,
  plain_sum,
  content_line,
  allowed_lines,
}
use Rattle.lie_canonical.proofs.DistinctLetters.{all_distinct, distinct_parts}
use Rattle.lie_canonical.proofs.PrintedEquations.{solved_is, unsolved_is}
use Rattle.lie_canonical.proofs.PrintedFiles.{IsContentLine, contents_of_lines}
use Rattle.lie_canonical.proofs.PrintedLines.{header_is, names_line_is, end_is}
use Rattle.lie_canonical.proofs.PrintedSizes.{solved_small, unsolved_small}

-- ---- lines
abbrev text_of : List (List ℕ) → List ℕ
text_of lines = flat_map (λ l. l ++ 10 ∷ []) lines

abbrev equation_line : Space → List ℕ → EquationRead → List ℕ
equation_line S names e = codes "eq " ++ sides_text S names e.lead e.diff

abbrev body_lines : Space → List ℕ → List EquationRead → List (List ℕ)
body_lines S names es = map (equation_line S names) es ++ codes "end" ∷ []

abbrev keyword_line : List ℕ → List ℕ → List ℕ
keyword_line keyword names = keyword ++ flat_map (λ n. 32 ∷ n ∷ []) names

abbrev lines_of_system : Space → List ℕ → List ℕ → List EquationRead → List (List ℕ)
lines_of_system S ind dep es = codes "lie 1" ∷ keyword_line (codes "vars") ind ∷ keyword_line (codes "deps") dep ∷ body_lines S (ind ++ dep) es

body_text : (S : Space) (names : List ℕ) (es : List EquationRead) → text_of (body_lines S names es) ≡ flat_map (equation_text S names) es ++ codes "end\n"
body_text S names [] = refl
body_text S names (e ∷ es) =
    ap (λ l. (equation_line S names e ++ 10 ∷ []) ++ l) (body_text S names es) ∙ sym (append_assoc (equation_text S names e) (flat_map (equation_text S names) es) (codes "end\n"))

system_text : (S : Space) (ind dep : List ℕ) (es : List EquationRead) → S.p ≡ length ind → text_of (lines_of_system S ind dep es) ≡ canonical_text (record { space = S; names = ind ++ dep; equations = es })
unfolding canonical_text
system_text S ind dep es p =
    let vars : List ℕ = names_line (codes "vars") (take S.p (ind ++ dep)) in
    let deps : List ℕ = names_line (codes "deps") (drop S.p (ind ++ dep)) in
    let equations : List ℕ = flat_map (equation_text S (ind ++ dep)) es in
    let first : names_line (codes "vars") ind ≡ vars = ap (names_line (codes "vars")) (sym (ap (λ n. take n (ind ++ dep)) p ∙ take-append_seam ind dep)) in
    let second : names_line (codes "deps") dep ≡ deps = ap (names_line (codes "deps")) (sym (ap (λ n. drop n (ind ++ dep)) p ∙ drop-append_seam ind dep)) in
    ap (λ l. codes "lie 1\n" ++ l)
    (ap₂ ◌++◌ first (ap₂ ◌++◌ second (body_text S (ind ++ dep) es)) ∙ sym (append_assoc (vars ++ deps) equations (codes "end\n") ∙ append_assoc vars deps (equations ++ codes "end\n")))

-- ---- equations
module _ (S : Space) (small : IsSmall S) (ind dep : List ℕ) (p : S.p ≡ length ind) (q : S.q ≡ length dep) (few : length ind ≤ 4) (distinct : AreDistinct [] ind) (others : AreDistinct [] dep) (all : AreDistinct [] (ind ++ dep)) where
  many : length (ind ++ dep) ≡ S.p + S.q
  many = let l = length-append ind dep in omega arith

  module _ (e : EquationRead) (w : IsWritten S e) (h : HasWrittenSides S e) where
    sides_are : (o : Option Coordinate) → IfSome o (IsLow S) → IfSome o (HasRoomBeside S e.diff)
        → IsEquation S (ind ++ dep) (32 ∷ sides_text S (ind ++ dep) o e.diff)
        (record { lead = lead_or o (lead_alone S (e.diff).list); diff = e.diff })
    sides_are (Some c) low room =
        solved_is S small ind dep p q few distinct others all c e.diff (record { coordinate = low.coordinate; low = low.low }) low.some
        (right_low S small e w h c low room) (solved_small S e.diff c h.numbers room)
    sides_are None low room =
        let terms = diff_low S small e w h in
        unsolved_is S small ind dep p q few distinct others all (lead_alone S (e.diff).list) e.diff terms (unsolved_small e.diff h.numbers)
        (unsolved_lead S small ind dep p q few distinct others all many e.diff terms (read_small S small e w h))

    sides_plain : (o : Option Coordinate) → IfSome o (IsLow S) → IfSome o (HasRoomBeside S e.diff)
        → ArePlain (sides_text S (ind ++ dep) o e.diff)
    sides_plain (Some c) low room =
        let names = names_plain [] (ind ++ dep) all in
        join (coordinate_text S (ind ++ dep) c ++ codes " = ") (polynomial_text S (ind ++ dep) (right_side S c e.diff))
        (join (coordinate_text S (ind ++ dep) c) (codes " = ") (plain_coordinate S (ind ++ dep) names c) (refl, (refl, (refl, tt))))
        (plain_sum S (ind ++ dep) names (right_side S c e.diff).list (right_low S small e w h c low room))
    sides_plain None low room =
        join (polynomial_text S (ind ++ dep) e.diff) (codes " = 0")
        (plain_sum S (ind ++ dep) (names_plain [] (ind ++ dep) all) (e.diff).list (diff_low S small e w h)) (refl, (refl, (refl, (refl, tt))))

  equations_are : (es : List EquationRead) → Every (IsWritten S) es → Every (HasWrittenSides S) es
      → AreEquations S (ind ++ dep) (body_lines S (ind ++ dep) es) (map (with_lead S) es)
  equations_are [] w h = (end_is, refl)
  equations_are (e ∷ es) w h = (
    (
      32 ∷ sides_text S (ind ++ dep) e.lead e.diff,
      record { front = no_blanks (equation_line S (ind ++ dep) e); ends = refl },
      sides_are e w.0 h.0 e.lead (w.0).lead (h.0).lead,
    ),
    equations_are es w.1 h.1,
  )

  equations_plain : (es : List EquationRead) → Every (IsWritten S) es → Every (HasWrittenSides S) es
      → Every ArePlain (body_lines S (ind ++ dep) es) × Every IsContentLine (body_lines S (ind ++ dep) es)
  equations_plain [] w h =
      let plain : ArePlain (codes "end") = (refl, (refl, (refl, tt))) in
      ((plain, tt), (content_line 101 (codes "nd") refl plain, tt))
  equations_plain (e ∷ es) w h =
      let plain : ArePlain (equation_line S (ind ++ dep) e) = (refl, (refl, (refl, sides_plain e w.0 h.0 e.lead (w.0).lead (h.0).lead))) in
      let more = equations_plain es w.1 h.1 in
      ((plain, more.0), (content_line 101 (113 ∷ 32 ∷ sides_text S (ind ++ dep) e.lead e.diff) refl plain, more.1))

  lines_plain : (es : List EquationRead) → Every (IsWritten S) es → Every (HasWrittenSides S) es
      → Every ArePlain (lines_of_system S ind dep es) × Every IsContentLine (lines_of_system S ind dep es)
  lines_plain es w h =
      let header : ArePlain (codes "lie 1") = (refl, (refl, (refl, (refl, (refl, tt))))) in
      let vars : ArePlain (keyword_line (codes "vars") ind) = (refl, (refl, (refl, (refl, plain_names ind (names_plain [] ind distinct))))) in
      let deps : ArePlain (keyword_line (codes "deps") dep) = (refl, (refl, (refl, (refl, plain_names dep (names_plain [] dep others))))) in
      let body = equations_plain es w h in (
        (header, (vars, (deps, body.0))),
        (content_line 108 (codes "ie 1") refl header, (content_line 118 _ refl vars, (content_line 100 _ refl deps, body.1))),
      )

  -- the file of such lines
  system_is : (es : List EquationRead) → AreDistinct ind dep → 1 ≤ length es → AreWritten S es → Every (HasWrittenSides S) es
      → IsFile (canonical_text (record { space = S; names = ind ++ dep; equations = es }))
      (with_leads (record { space = S; names = ind ++ dep; equations = es }))
  system_is es apart some written h =
      let plain = lines_plain es written.equations h in
      let count : length (map (with_lead S) es) ≡ length es = length-map es (with_lead S) in
      let few_es = written.few in
      let some_p = small.some_p in
      let some_q = small.some_q in
      let few_q = small.few_q in
      subst (λ t. IsFile t (with_leads (record { space = S; names = ind ++ dep; equations = es }))) (system_text S ind dep es p) (record {
        allowed = allowed_lines (lines_of_system S ind dep es) plain.0;
        system = record {
          header = codes "lie 1";
          vars = keyword_line (codes "vars") ind;
          deps = keyword_line (codes "deps") dep;
          body = body_lines S (ind ++ dep) es;
          independent = ind;
          dependent = dep;
          lines = contents_of_lines (lines_of_system S ind dep es) plain.1;
          header_is = header_is;
          vars_is = names_line_is (codes "vars") [] ind distinct (omega arith) few;
          deps_is = names_line_is (codes "deps") ind dep apart (omega arith) (omega arith);
          body_is = equations_are es written.equations h;
          space = λ i. record { p = p i; q = q i };
          names = refl;
          some = omega arith;
          few = omega arith;
        };
      })

-- ---- files
-- the names in their two parts
parted_is_file : (S : Space) (ind dep : List ℕ) (es : List EquationRead) → S.p ≡ length ind → S.q ≡ length dep
    → IsWrittenSystem (record { space = S; names = ind ++ dep; equations = es })
    → IsFile (canonical_text (record { space = S; names = ind ++ dep; equations = es }))
    (with_leads (record { space = S; names = ind ++ dep; equations = es }))
parted_is_file S ind dep es p q h =
    let all = all_distinct (ind ++ dep) h.letters in
    let parts = distinct_parts [] ind dep all in
    let small = h.small in
    let few_p = small.few_p in
    system_is S small ind dep p q (omega arith) parts.0
    (distinct_alone ind [] dep (subst (λ l. AreDistinct l dep) (sym (append-nil ind)) parts.1)) all es parts.1 h.some h.written h.sides

pub written_is_file : (s : SystemRead) → IsWrittenSystem s → IsFile (canonical_text s) (with_leads s)
written_is_file s h =
    let n = h.named in
    let m = length-drop (s.space).p s.names in
    let parted : s ≡ record { space = s.space; names = take (s.space).p s.names ++ drop (s.space).p s.names; equations = s.equations } =
    ap (λ l. record { space = s.space; names = l; equations = s.equations }) (sym (take-append-drop (s.space).p s.names)) in
    subst (λ t. IsFile (canonical_text t) (with_leads t)) (sym parted)
    (parted_is_file s.space (take (s.space).p s.names) (drop (s.space).p s.names) s.equations
    (sym (length-take-le (s.space).p s.names (omega arith))) (omega arith) (subst IsWrittenSystem parted h))

-- ---- bytes
ascii_byte : (b : ℕ) (bs : List ℕ) → is_allowed b bs ≡ true → b < 128
ascii_byte b bs h = go (b == 13) (b == 9) (b == 10) refl refl refl h
  where
    go : (x y z : Bool) → (b == 13) ≡ x → (b == 9) ≡ y → (b == 10) ≡ z → (if x then begins_line_end bs else (y || z || (nat_le 32 b && nat_le b 126))) ≡ true → b < 128
    go true y z e f g k = let is : b ≡ 13 = grind (arith, nat_tests, e) in omega arith
    go false true z e f g k = let is : b ≡ 9 = grind (arith, nat_tests, f) in omega arith
    go false false true e f g k = let is : b ≡ 10 = grind (arith, nat_tests, g) in omega arith
    go false false false e f g k = let p = and_true (nat_le 32 b) (nat_le b 126) k in let high : b ≤ 126 = grind (arith, nat_tests, p.1) in omega arith

ascii_bytes : (bytes : List ℕ) → AreAllowed bytes → Every (λ b. b < 128) bytes
ascii_bytes [] h = tt
ascii_bytes (b ∷ bs) h = (ascii_byte b bs h.0, ascii_bytes bs h.1)

-- what is the canonical text of a written system
pub text_is_file : (s : SystemRead) (bytes : List ℕ) → IsWrittenSystem s → bytes ≡ canonical_text s → IsFile bytes (with_leads s)
text_is_file s bytes h is = subst (λ t. IsFile t (with_leads s)) (sym is) (written_is_file s h)

pub text_is_ascii : (s : SystemRead) (bytes : List ℕ) → IsWrittenSystem s → bytes ≡ canonical_text s → All (λ b. b < 128) bytes
text_is_ascii s bytes h is = All-from_recursion (λ b. b < 128) bytes (ascii_bytes bytes (text_is_file s bytes h is).allowed)
