-- The place of a fault is one in the text, and its line and column are counted from what stands before it.
use Rattle.std.specs.Prelude.{ℕ, zero, suc, ◌+◌, ◌-◌, ◌==◌, ◌≡◌, ◌≤◌, Bool, true, false, cond, List, [], ◌∷◌, ◌++◌, length, take, drop, get_or, min, codes, Option, Some, if◌then◌else◌, refl}
use Rattle.std.specs.List.{onto_first}
use Rattle.std.proofs.Common.{sym, ap, ap₂, subst, ◌∙◌, arith, append_assoc, append-nil, length-append}
use Rattle.std.proofs.lemmas.List.{length-take-le}
use Rattle.lie_geometry.specs.Coordinates.{Space}
use Rattle.lie_scan.specs.declared.fault.BadFile.{BadFile}
use Rattle.lie_scan.specs.declared.fault.BadKind.{BadKind}
use Rattle.lie_scan.specs.declared.fault.BadKind.TheVariants.{TooLong, NotAscii, Header, UnknownWord, TooManyEquations, Syntax, EndMissing}
use Rattle.lie_scan.specs.declared.fault.ReadFail.{ReadFail}
use Rattle.lie_scan.specs.declared.fault.ReadFail.TheVariants as reads
use Rattle.lie_file.specs.declared.lines.FileFail.{FileFail}
use Rattle.lie_file.specs.declared.lines.FileFail.TheVariants as fails
use Rattle.lie_scan.specs.declared.runs.Class.TheVariants.{Content}
use Rattle.lie_scan.specs.Runs.{run, after_blanks}
use Rattle.lie_system.specs.Systems.{EquationRead}
use Rattle.lie_file.specs.FileGrammar.{is_allowed, lines_of}
use Rattle.lie_file.specs.Places.{next_line, fault_at, last_from, last_length, file_fault, not_allowed_from}
use Rattle.lie_file.specs.FileFaults.{IsNext, IsNamesLineFault, no_line, other_keyword, in_names, AreEquationLines, IsLineFault, no_end, other_word, seventeenth, in_equation, early_end, further_word, behind_end, IsLinesFault, no_header, other_header, in_vars, in_deps, in_equations, IsFault, too_long, not_allowed, in_lines, IsPlaceIn}
use Rattle.lie_file.proofs.ShortLines.{AreUpTo, parts_up_to, run_shorter}

-- ---- lists
head_same : {X : Type 0} (x y : X) (xs ys : List X) → x ∷ xs ≡ y ∷ ys → x ≡ y
head_same x y xs ys e = ap (λ l. get_or l 0 x) e

tail_same : {X : Type 0} (x y : X) (xs ys : List X) → x ∷ xs ≡ y ∷ ys → xs ≡ ys
tail_same x y xs ys e = ap (drop 1) e

-- ---- a place among the lines
-- the fault stands in one of the lines, or at the end of the last
abbrev IsInLines : List (List ℕ) → FileFail → Type 0
IsInLines lines (fails.Fault s) =
    (front : List (List ℕ)) × (line : List ℕ) × (behind : List (List ℕ)) × (k : ℕ) × (lines ≡ front ++ line ∷ behind) × (s.lines_left ≡ suc (length behind)) × (s.column ≡ k + 1) × (k ≤ length line)
IsInLines lines fails.Ended = Unit {0}
IsInLines lines fails.NoMemory = ⊥

record NextLine (lines : List (List ℕ)) (content : List ℕ) (behind : List (List ℕ)) : Type 0 where
  front : List (List ℕ)
  line : List ℕ
  place : lines ≡ front ++ line ∷ behind
  shorter : length content ≤ length line

next_is : (lines : List (List ℕ)) (content : List ℕ) (behind : List (List ℕ)) → IsNext lines content behind → NextLine lines content behind
next_is [] content behind h = cc
next_is (l ∷ ls) content behind h = go (length (after_blanks (run Content l)) == 0) h (next_is ls content behind)
  where
    go : (b : Bool) → (if b then next_line ls else Some (run Content l, ls)) ≡ Some (content, behind) → (IsNext ls content behind → NextLine ls content behind) → NextLine (l ∷ ls) content behind
    go true e rest = let n = rest e in record { front = l ∷ n.front; line = n.line; place = ap (λ m. l ∷ m) n.place; shorter = n.shorter }
    go false e rest =
        let both : ◌≡◌ {A = List ℕ × List (List ℕ)} (run Content l, ls) (content, behind) = cc in
        let text : run Content l ≡ content = ap (λ (z : List ℕ × List (List ℕ)). z.0) both in
        let same : ls ≡ behind = ap (λ (z : List ℕ × List (List ℕ)). z.1) both in
        record { front = []; line = l; place = ap (λ m. l ∷ m) same; shorter = subst (λ c. length c ≤ length l) text (run_shorter Content l) }

here : (kind : BadKind) (lines : List (List ℕ)) (content : List ℕ) (behind : List (List ℕ)) (left : ℕ) → IsNext lines content behind → IsInLines lines (fails.Fault (record { kind = kind; lines_left = length behind + 1; column = length content - left + 1 }))
here kind lines content behind left next =
    let n = next_is lines content behind next in
    (n.front, n.line, behind, length content - left, n.place, (let e : length behind + 1 ≡ suc (length behind) = omega arith in e), refl, (let s = n.shorter in omega arith))

later : (lines : List (List ℕ)) (content : List ℕ) (behind : List (List ℕ)) (f : FileFail) → IsNext lines content behind → IsInLines behind f → IsInLines lines f
later lines content behind (fails.Fault s) next (front, line, rest, k, place, left, column, low) =
    let n = next_is lines content behind next in
    (n.front ++ n.line ∷ front, line, rest, k, n.place ∙ ap (λ m. n.front ++ n.line ∷ m) place ∙ sym (append_assoc n.front (n.line ∷ front) (line ∷ rest)), left, column, low)
later lines content behind fails.Ended next h = tt
later lines content behind fails.NoMemory next h = h

behind_equations : (S : Space) (names : List ℕ) (lines : List (List ℕ)) (es : List EquationRead) (rest : List (List ℕ)) (f : FileFail) → AreEquationLines S names lines es rest → IsInLines rest f → IsInLines lines f
behind_equations S names lines [] rest f h p = subst (λ m. IsInLines m f) (sym h) p
behind_equations S names lines (e ∷ es) rest f h p = later lines h.0 h.1 f h.2 (behind_equations S names h.1 es rest f h.4 p)

names_place : (keyword before : List ℕ) (lines : List (List ℕ)) (f : FileFail) → IsNamesLineFault keyword before lines f → IsInLines lines f
names_place keyword before lines f (no_line e) = tt
names_place keyword before lines f (other_keyword content behind next other) = here UnknownWord lines content behind (length (after_blanks content)) next
names_place keyword before lines f (in_names content text behind s next word fault) = here s.kind lines content behind s.left next

line_place : (S : Space) (names : List ℕ) (before : List EquationRead) (lines : List (List ℕ)) (f : FileFail) → IsLineFault S names before lines f → IsInLines lines f
line_place S names before lines f (no_end e) = tt
line_place S names before lines f (other_word content behind next a b) = here UnknownWord lines content behind (length (after_blanks content)) next
line_place S names before lines f (seventeenth content text behind next word many) = here TooManyEquations lines content behind (length (after_blanks content)) next
line_place S names before lines f (in_equation content text behind s next word few fault) = here s.kind lines content behind s.left next
line_place S names before lines f (early_end content text behind next word none) = here Syntax lines content behind (length (after_blanks content)) next
line_place S names before lines f (further_word content text behind next word some more) = here Syntax lines content behind (length (after_blanks text)) next
line_place S names before lines f (behind_end content text behind further rest next word some blanks second) = later lines content behind (fault_at UnknownWord further (length rest) (after_blanks further)) next (here UnknownWord behind further rest (length (after_blanks further)) second)

lines_place : (l : List ℕ) (ls : List (List ℕ)) (f : FileFail) → IsLinesFault (l ∷ ls) f → IsInLines (l ∷ ls) f
lines_place l ls f (no_header e) = ([], l, ls, 0, refl, refl, refl, omega arith)
lines_place l ls f (other_header content behind next other) = here Header (l ∷ ls) content behind (length (after_blanks content)) next
lines_place l ls f (in_vars header behind g next is fault) = later (l ∷ ls) header behind f next (names_place (codes "vars") [] behind f fault)
lines_place l ls f (in_deps header vars independent behind rest g next is next_vars vars_is fault) = later (l ∷ ls) header behind f next (later behind vars rest f next_vars (names_place (codes "deps") independent rest f fault))
lines_place l ls f (in_equations header vars deps independent dependent behind rest body left before g next is next_vars vars_is next_deps deps_is are few fault) =
    later (l ∷ ls) header behind f next (later behind vars rest f next_vars (later rest deps body f next_deps
    (behind_equations (record { p = length independent; q = length dependent }) (independent ++ dependent) body before left f are (line_place (record { p = length independent; q = length dependent }) (independent ++ dependent) before left f fault))))

-- ---- a place in the bytes
-- the bytes part so that the first of them have these lines
record Parted (bytes : List ℕ) (lines : List (List ℕ)) : Type 0 where
  before : List ℕ
  rest : List ℕ
  parted : bytes ≡ before ++ rest
  are : lines_of before ≡ lines

-- nothing stands before
at_start : (bytes : List ℕ) (k : ℕ) (line : List ℕ) → take k line ≡ [] → Parted bytes (take k line ∷ [])
at_start bytes k line e = record { before = []; rest = bytes; parted = refl; are = ap (λ m. m ∷ []) (sym e) }

some_line : (bytes : List ℕ) → (l : List ℕ) × (ls : List (List ℕ)) × (lines_of bytes ≡ l ∷ ls)
some_line [] = ([], [], refl)
some_line (b ∷ bs) = go (b == 10) (some_line bs)
  where
    go : (t : Bool) → ((l : List ℕ) × (ls : List (List ℕ)) × (lines_of bs ≡ l ∷ ls)) → (l : List ℕ) × (ls : List (List ℕ)) × (cond t ([] ∷ lines_of bs) (onto_first b (lines_of bs)) ≡ l ∷ ls)
    go true h = ([], lines_of bs, refl)
    go false h = (b ∷ h.0, h.1, ap (onto_first b) h.2)

nothing_taken : (k : ℕ) → ◌≡◌ {A = List ℕ} (take k []) []
nothing_taken zero = refl
nothing_taken (suc k) = refl

IsPartedAt : List ℕ → Type 0
IsPartedAt bytes = (front : List (List ℕ)) (line : List ℕ) (behind : List (List ℕ)) (k : ℕ) → lines_of bytes ≡ front ++ line ∷ behind → Parted bytes (front ++ take k line ∷ [])

one_more : (b : ℕ) (bs : List ℕ) → IsPartedAt bs → (t : Bool) → (b == 10) ≡ t → (h : List ℕ) (ls : List (List ℕ)) → lines_of bs ≡ h ∷ ls → (front : List (List ℕ)) (line : List ℕ) (behind : List (List ℕ)) (k : ℕ)
    → cond t ([] ∷ lines_of bs) (onto_first b (lines_of bs)) ≡ front ++ line ∷ behind → Parted (b ∷ bs) (front ++ take k line ∷ [])
unfolding IsPartedAt
one_more b bs more true q h ls is [] line behind k e = at_start (b ∷ bs) k line (ap (take k) (sym (head_same [] line (lines_of bs) behind e)) ∙ nothing_taken k)
one_more b bs more true q h ls is (x ∷ front) line behind k e =
    let p = more front line behind k (tail_same [] x (lines_of bs) (front ++ line ∷ behind) e) in
    record {
      before = b ∷ p.before;
      rest = p.rest;
      parted = ap (λ l. b ∷ l) p.parted;
      are = ap (λ t. cond t ([] ∷ lines_of p.before) (onto_first b (lines_of p.before))) q ∙ ap₂ (λ (y : List ℕ) (m : List (List ℕ)). y ∷ m) (head_same [] x (lines_of bs) (front ++ line ∷ behind) e) p.are;
    }
one_more b bs more false q h ls is [] line behind zero e = at_start (b ∷ bs) 0 line refl
one_more b bs more false q h ls is [] line behind (suc j) e =
    let p = more [] h ls j is in
    let same : b ∷ h ≡ line = head_same (b ∷ h) line ls behind (sym (ap (onto_first b) is) ∙ e) in
    record {
      before = b ∷ p.before;
      rest = p.rest;
      parted = ap (λ l. b ∷ l) p.parted;
      are = ap (λ t. cond t ([] ∷ lines_of p.before) (onto_first b (lines_of p.before))) q ∙ ap (onto_first b) p.are ∙ ap (λ (y : List ℕ). take (suc j) y ∷ []) same;
    }
one_more b bs more false q h ls is (x ∷ front) line behind k e =
    let same : (b ∷ h) ∷ ls ≡ x ∷ (front ++ line ∷ behind) = sym (ap (onto_first b) is) ∙ e in
    let p = more (h ∷ front) line behind k (is ∙ ap (λ m. h ∷ m) (tail_same (b ∷ h) x ls (front ++ line ∷ behind) same)) in
    record {
      before = b ∷ p.before;
      rest = p.rest;
      parted = ap (λ l. b ∷ l) p.parted;
      are = ap (λ t. cond t ([] ∷ lines_of p.before) (onto_first b (lines_of p.before))) q ∙ ap (onto_first b) p.are ∙ ap (λ (y : List ℕ). y ∷ (front ++ take k line ∷ [])) (head_same (b ∷ h) x ls (front ++ line ∷ behind) same);
    }

parted_at : (bytes : List ℕ) → IsPartedAt bytes
unfolding IsPartedAt
parted_at [] [] line behind k e = at_start [] k line (ap (take k) (sym (head_same [] line [] behind e)) ∙ nothing_taken k)
parted_at [] (x ∷ []) line behind k e = absurd (let n : ◌≡◌ {A = List (List ℕ)} [] (line ∷ behind) = tail_same [] x [] (line ∷ behind) e in cc)
parted_at [] (x ∷ y ∷ front) line behind k e = absurd (let n : ◌≡◌ {A = List (List ℕ)} [] (y ∷ (front ++ line ∷ behind)) = tail_same [] x [] (y ∷ (front ++ line ∷ behind)) e in cc)
parted_at (b ∷ bs) front line behind k e = let s = some_line bs in one_more b bs (parted_at bs) (b == 10) refl s.0 s.1 s.2 front line behind k e

-- ---- the first byte that is not allowed
-- the column behind lines, the first of which begins at column c
column_from : ℕ → List (List ℕ) → ℕ
column_from c [] = c
column_from c (h ∷ []) = c + length h
column_from c (h ∷ x ∷ ls) = last_length (x ∷ ls) + 1

record Stopped (bytes : List ℕ) (line column l c : ℕ) : Type 0 where
  before : List ℕ
  rest : List ℕ
  parted : bytes ≡ before ++ rest
  line_is : l + 1 ≡ line + length (lines_of before)
  column_is : c ≡ column_from column (lines_of before)

first_column : (h : List ℕ) (ls : List (List ℕ)) → column_from 1 (h ∷ ls) ≡ last_length (h ∷ ls) + 1
unfolding column_from
first_column h [] = omega arith
first_column h (x ∷ ls) = refl

next_column : (b column : ℕ) (h : List ℕ) (ls : List (List ℕ)) → column_from (column + 1) (h ∷ ls) ≡ column_from column ((b ∷ h) ∷ ls)
unfolding column_from
next_column b column h [] = omega arith
next_column b column h (x ∷ ls) = refl

stopped : (bytes : List ℕ) (line column l c : ℕ) → not_allowed_from line column bytes ≡ Some (l, c) → Stopped bytes line column l c
unfolding column_from
stopped [] line column l c e = cc
stopped (b ∷ bs) line column l c e = go (is_allowed b bs) (b == 10) refl e (stopped bs (line + 1) 1 l c) (stopped bs line (column + 1) l c)
  where
    at_once : ◌≡◌ {A = Option (ℕ × ℕ)} (Some (line, column)) (Some (l, c)) → Stopped (b ∷ bs) line column l c
    at_once e =
        let both : ◌≡◌ {A = ℕ × ℕ} (line, column) (l, c) = cc in
        let first : line ≡ l = ap (λ (z : ℕ × ℕ). z.0) both in
        let second : column ≡ c = ap (λ (z : ℕ × ℕ). z.1) both in
        record { before = []; rest = b ∷ bs; parted = refl; line_is = omega arith; column_is = omega arith }

    line_end : (b == 10) ≡ true → Stopped bs (line + 1) 1 l c → Stopped (b ∷ bs) line column l c
    line_end q p =
        let s = some_line p.before in
        let are : lines_of (b ∷ p.before) ≡ [] ∷ (s.0 ∷ s.1) = ap (λ t. cond t ([] ∷ lines_of p.before) (onto_first b (lines_of p.before))) q ∙ ap (λ (m : List (List ℕ)). [] ∷ m) s.2 in
        let many : length (lines_of (b ∷ p.before)) ≡ suc (suc (length s.1)) = ap length are in
        let few : length (lines_of p.before) ≡ suc (length s.1) = ap length s.2 in
        let at = p.line_is in
        record {
          before = b ∷ p.before;
          rest = p.rest;
          parted = ap (λ m. b ∷ m) p.parted;
          line_is = omega arith;
          column_is = p.column_is ∙ ap (column_from 1) s.2 ∙ first_column s.0 s.1 ∙ sym (ap (column_from column) are);
        }

    in_line : (b == 10) ≡ false → Stopped bs line (column + 1) l c → Stopped (b ∷ bs) line column l c
    in_line q p =
        let s = some_line p.before in
        let are : lines_of (b ∷ p.before) ≡ (b ∷ s.0) ∷ s.1 = ap (λ t. cond t ([] ∷ lines_of p.before) (onto_first b (lines_of p.before))) q ∙ ap (onto_first b) s.2 in
        let many : length (lines_of (b ∷ p.before)) ≡ suc (length s.1) = ap length are in
        let few : length (lines_of p.before) ≡ suc (length s.1) = ap length s.2 in
        let at = p.line_is in
        record {
          before = b ∷ p.before;
          rest = p.rest;
          parted = ap (λ m. b ∷ m) p.parted;
          line_is = omega arith;
          column_is = p.column_is ∙ ap (column_from (column + 1)) s.2 ∙ next_column b column s.0 s.1 ∙ sym (ap (column_from column) are);
        }

    go : (a t : Bool) → (b == 10) ≡ t → (if a then (if t then not_allowed_from (line + 1) 1 bs else not_allowed_from line (column + 1) bs) else Some (line, column)) ≡ Some (l, c)
        → (not_allowed_from (line + 1) 1 bs ≡ Some (l, c) → Stopped bs (line + 1) 1 l c) → (not_allowed_from line (column + 1) bs ≡ Some (l, c) → Stopped bs line (column + 1) l c) → Stopped (b ∷ bs) line column l c
    go true true q e first second = line_end q (first e)
    go true false q e first second = in_line q (second e)
    go false t q e first second = at_once e

-- ---- places of faults
parts_few : (bytes : List ℕ) → length (lines_of bytes) ≤ suc (length bytes)
parts_few [] = omega arith
parts_few (b ∷ bs) = go (b == 10) (parts_few bs) (some_line bs)
  where
    go : (t : Bool) → length (lines_of bs) ≤ suc (length bs) → ((l : List ℕ) × (ls : List (List ℕ)) × (lines_of bs ≡ l ∷ ls)) → length (cond t ([] ∷ lines_of bs) (onto_first b (lines_of bs))) ≤ suc (suc (length bs))
    go true few s = omega arith
    go false few s =
        let one : length (onto_first b (lines_of bs)) ≡ suc (length s.1) = ap (λ m. length (onto_first b m)) s.2 in
        let other : length (lines_of bs) ≡ suc (length s.1) = ap length s.2 in
        omega arith

last_low : (m n : ℕ) (lines : List (List ℕ)) → n ≤ m → AreUpTo m lines → last_from n lines ≤ m
last_low m n [] h k = h
last_low m n (l ∷ ls) h k = last_low m (length l) ls k.0 k.1

last_at_end : (n : ℕ) (front : List (List ℕ)) (l : List ℕ) → last_from n (front ++ l ∷ []) ≡ length l
last_at_end n [] l = refl
last_at_end n (x ∷ front) l = last_at_end (length x) front l

min_is : (n : ℕ) → n ≤ 65537 → min n 4294967295 ≡ n
min_is n h = omega arith

made : (bytes before rest : List ℕ) (line column : ℕ) (kind : BadKind) → length bytes ≤ 65536 → bytes ≡ before ++ rest → line ≡ length (lines_of before) → column ≡ last_length (lines_of before) + 1
    → IsPlaceIn bytes (record { line = min line 4294967295; column = min column 4294967295; kind = kind })
made bytes before rest line column kind short parted at_line at_column =
    let whole : length bytes ≡ length before + length rest = ap length parted ∙ length-append before rest in
    let few : length (lines_of before) ≤ suc (length before) = parts_few before in
    let low : last_length (lines_of before) ≤ length before = last_low (length before) 0 (lines_of before) (omega arith) (parts_up_to (λ b. b == 10) before) in
    record { before = before; rest = rest; parted = parted; line = min_is line (omega arith) ∙ at_line; column = min_is column (omega arith) ∙ at_column }

abbrev HasPlace : List ℕ → ReadFail → Type 0
HasPlace bytes (reads.Bad b) = ¬ (b.kind ≡ TooLong) → IsPlaceIn bytes b
HasPlace bytes reads.NoMemory = ⊥

in_lines_place : (bytes : List ℕ) → length bytes ≤ 65536 → (f : FileFail) → IsInLines (lines_of bytes) f → HasPlace bytes (file_fault (lines_of bytes) f)
unfolding IsPartedAt
in_lines_place bytes short (fails.Fault s) (front, line, behind, k, place, left, column, low) =
    let p = parted_at bytes front line behind k place in
    let all : length (lines_of bytes) ≡ length front + suc (length behind) = ap length place ∙ length-append front (line ∷ behind) in
    let some : length (lines_of p.before) ≡ length front + 1 = ap length p.are ∙ length-append front (take k line ∷ []) in
    let last : last_length (lines_of p.before) ≡ k = ap last_length p.are ∙ last_at_end 0 front (take k line) ∙ length-take-le k line low in
    (λ n. made bytes p.before p.rest (length (lines_of bytes) - s.lines_left + 1) s.column s.kind short p.parted (omega arith) (omega arith))
in_lines_place bytes short fails.Ended h = λ n. made bytes bytes [] (length (lines_of bytes)) (last_length (lines_of bytes) + 1) EndMissing short (sym (append-nil bytes)) refl refl
in_lines_place bytes short fails.NoMemory h = h

in_some_line : (bytes : List ℕ) (f : FileFail) → IsLinesFault (lines_of bytes) f → IsInLines (lines_of bytes) f
in_some_line bytes f h = let s = some_line bytes in subst (λ m. IsInLines m f) (sym s.2) (lines_place s.0 s.1 f (subst (λ m. IsLinesFault m f) s.2 h))

pub fault_place : (bytes : List ℕ) (r : ReadFail) → IsFault bytes r → HasPlace bytes r
fault_place bytes r (too_long long) = λ n. absurd (n refl)
fault_place bytes r (not_allowed line column short e) =
    λ n.
    let p = stopped bytes 1 1 line column e in
    let s = some_line p.before in
    let at = p.line_is in
    made bytes p.before p.rest line column NotAscii short p.parted (omega arith) (p.column_is ∙ ap (column_from 1) s.2 ∙ first_column s.0 s.1 ∙ sym (ap (λ m. last_length m + 1) s.2))
fault_place bytes r (in_lines f short allowed fault) = in_lines_place bytes short f (in_some_line bytes f fault)

-- want of memory is no fault of a text
pub memory_is_no_fault : (bytes : List ℕ) → IsFault bytes reads.NoMemory → ⊥
memory_is_no_fault bytes h = fault_place bytes reads.NoMemory h

pub faults_have_places : (bytes : List ℕ) (b : BadFile) → IsFault bytes (reads.Bad b) → ¬ (b.kind ≡ TooLong) → IsPlaceIn bytes b
faults_have_places bytes b h = fault_place bytes (reads.Bad b) h
