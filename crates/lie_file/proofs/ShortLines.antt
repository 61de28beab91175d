-- The lines of a short text are short, and so are those behind some of them.
use Rattle.std.specs.Prelude.{ℕ, zero, suc, ◌≡◌, ◌<◌, ◌≤◌, ◌==◌, Bool, true, false, cond, List, [], ◌∷◌, length, map, Some, Ok, if◌then◌else◌}
use Rattle.std.specs.List.{AllByRecursion as Every, slice_split, onto_first}
use Rattle.std.proofs.Common.{Bor, get_or, ap, subst, arith}
use Rattle.lie_scan.specs.declared.runs.Class.{Class}
use Rattle.lie_scan.specs.declared.runs.Class.TheVariants.{Blank, Word, Content}
use Rattle.lie_scan.specs.Runs.{run, behind, after_blanks, is_in}
use Rattle.lie_file.specs.Places.{next_line}
use Rattle.lie_file.specs.FileGrammar.{lines_of}
use Rattle.lie_file.specs.FileLines.{AreShort, behind_word, after_header, names_of}
use Rattle.lie_file.proofs.LineLaws.{after_header-is, names_of-is}
use Rattle.lie_scan.proofs.Shorter.{behind_shorter}

abbrev pub AreUpTo : ℕ → List (List ℕ) → Type 0
AreUpTo n lines = Every (λ l. length l ≤ n) lines

up_to_wider : (n m : ℕ) → n ≤ m → (lines : List (List ℕ)) → AreUpTo n lines → AreUpTo m lines
up_to_wider n m le [] h = tt
up_to_wider n m le (l ∷ ls) h = (let k : length l ≤ n = h.0 in omega arith, up_to_wider n m le ls h.1)

first_longer : (n b : ℕ) (parts : List (List ℕ)) → AreUpTo n parts → AreUpTo (suc n) (onto_first b parts)
first_longer n b [] h = (omega arith, tt)
first_longer n b (l ∷ ls) h = (let k : length l ≤ n = h.0 in omega arith, up_to_wider n (suc n) (omega arith) ls h.1)

pub parts_up_to : (p : ℕ → Bool) (bytes : List ℕ) → AreUpTo (length bytes) (slice_split p bytes)
parts_up_to p [] = (omega arith, tt)
parts_up_to p (b ∷ bs) = go (p b) (parts_up_to p bs)
  where
    go : (t : Bool) → AreUpTo (length bs) (slice_split p bs) → AreUpTo (suc (length bs)) (cond t ([] ∷ slice_split p bs) (onto_first b (slice_split p bs)))
    go true h = (omega arith, up_to_wider (length bs) (suc (length bs)) (omega arith) (slice_split p bs) h)
    go false h = first_longer (length bs) b (slice_split p bs) h

pub text_short : (bytes : List ℕ) → length bytes ≤ 65536 → AreShort (lines_of bytes)
text_short bytes short = up_to_wider (length bytes) 65536 short (lines_of bytes) (parts_up_to (λ b. b == 10) bytes)

-- ---- the lines behind others
next_short : (lines : List (List ℕ)) (x : List ℕ × List (List ℕ)) → next_line lines ≡ Some x → AreShort lines → AreShort x.1
next_short [] x h short = cc
next_short (l ∷ ls) x h short = go (length (after_blanks (run Content l)) == 0) (λ e. next_short ls x e short.1) h
  where
    go : (t : Bool) → (next_line ls ≡ Some x → AreShort x.1) → (if t then next_line ls else Some (run Content l, ls)) ≡ Some x → AreShort x.1
    go true k e = k e
    go false k e = let same : ls ≡ x.1 = cc in subst AreShort same short.1

pub header_short : (lines behind : List (List ℕ)) → after_header lines ≡ Ok behind → AreShort lines → AreShort behind
header_short lines behind h short = let r = after_header-is lines behind h in next_short lines (r.0, behind) r.3 short

pub names_short : (keyword before : List ℕ) (lines : List (List ℕ)) (x : List ℕ × List (List ℕ)) → names_of keyword before lines ≡ Ok x → AreShort lines → AreShort x.1
names_short keyword before lines x h short = let r = names_of-is keyword before lines x h in next_short lines (r.content, x.1) r.next short

-- ---- parts of a line
pub run_shorter : (c : Class) (bs : List ℕ) → length (run c bs) ≤ length bs
run_shorter c [] = omega arith
run_shorter c (b ∷ bs) = go (is_in c b) (run_shorter c bs)
  where
    go : (t : Bool) → length (run c bs) ≤ length bs → length (if t then b ∷ run c bs else []) ≤ length (b ∷ bs)
    go true h = omega arith
    go false h = omega arith

line_short : (lines : List (Bor (List ℕ))) (i : ℕ) (d : Bor (List ℕ)) → i < length lines → AreShort (map (λ l. l.now) lines) → length (get_or lines i d).now ≤ 65536
line_short [] i d lt h = absurd (omega arith)
line_short (l ∷ ls) zero d lt h = h.0
line_short (l ∷ ls) (suc i) d lt h = line_short ls i d (omega arith) h.1

pub content_short : (lines : List (Bor (List ℕ))) (i : ℕ) (d : Bor (List ℕ)) (content : List ℕ) → i < length lines → AreShort (map (λ l. l.now) lines) → content ≡ run Content (get_or lines i d).now → length content ≤ 65536
content_short lines i d content lt h is =
    let same = ap length is in
    let less = run_shorter Content (get_or lines i d).now in
    let short = line_short lines i d lt h in
    omega arith

pub behind_word_short : (text : List ℕ) → length text ≤ 65536 → length (behind_word text) ≤ 65536
behind_word_short text short = let k = behind_shorter Blank text in let l = behind_shorter Word (after_blanks text) in omega arith
