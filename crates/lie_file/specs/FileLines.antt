-- Reading the lines of a file: the header and the names.
use Rattle.std.specs.Prelude.{
  ℕ,
  ◌-◌,
  ◌≡◌,
  ◌≤◌,
  Bool,
  ◌&&◌,
  ◌==◌,
  nat_le,
  nat_eq,
  List,
  [],
  ◌∷◌,
  ◌++◌,
  length,
  if◌then◌else◌,
  Some,
  None,
  Ok,
  Err,
  codes,
}
use Rattle.std.specs.declared.option.Option.{Option}
use Rattle.std.specs.declared.result.Result.{Result}
use Rattle.std.specs.Borrow.{Bor}
use Rattle.std.specs.Cmp.Lexicographic.{pointwise}
use Rattle.std.specs.List.{list_any, AllByRecursion}
use Rattle.lie_scan.specs.declared.fault.BadKind.TheVariants.{Header, UnknownWord, NameBad, NameTwice, TooManyNames, Syntax}
use Rattle.lie_scan.specs.declared.runs.Class.TheVariants.{Word, Letter}
use Rattle.lie_scan.specs.declared.stop.Stop.{Stop}
use Rattle.lie_scan.specs.declared.stop.LineFail.{LineFail}
use Rattle.lie_scan.specs.declared.stop.LineFail.TheVariants.{Fault, NoMemory}
use Rattle.lie_file.specs.declared.lines.FileFail.{FileFail}
use Rattle.lie_file.specs.declared.lines.FileFail.TheVariants as fails
use Rattle.lie_scan.specs.Runs.{run, behind, after_blanks, is_in}
use Rattle.lie_scan.specs.Stops.{stop, ◌>>=◌}
use Rattle.lie_file.specs.Places.{fault_at, placed, next_line}
use Rattle.lie_scan.specs.Turns.{Turn, goes_on, ends, all_turns}
use Rattle.lie_scan.specs.Limits.{greatest_text_length}
use Rattle.lie_jet.specs.Limits.{greatest_variable_count}

-- what a call answered, seen by view, is what reading gives, unless memory ran out
abbrev pub FileFails : {Y : Type 0} → FileFail → Result Y FileFail → Type 0
FileFails fails.NoMemory read = Unit {0}
FileFails (fails.Fault s) read = read ≡ Err (fails.Fault s)
FileFails fails.Ended read = read ≡ Err fails.Ended

abbrev pub ReadsFile : {X Y : Type 0} → (X → Y) → Result X FileFail → Result Y FileFail → Type 0
ReadsFile view (Ok x) read = read ≡ Ok (view x)
ReadsFile view (Err e) read = FileFails e read

-- ---- places
-- a line is read, or its fault has the place of that line
abbrev pub in_line : {A : Type 0} → List ℕ → ℕ → Result A Stop → Result A FileFail
in_line content left (Ok x) = Ok x
in_line content left (Err s) = Err (placed s content left)

abbrev pub IsFailed : LineFail → List ℕ → ℕ → FileFail → Type 0
IsFailed (Fault s) content left fail = fail ≡ placed s content left
IsFailed NoMemory content left fail = fail ≡ fails.NoMemory

-- ---- lines
-- no line has more bytes than a text may have
abbrev pub AreShort : List (List ℕ) → Type 0
AreShort lines = AllByRecursion (λ l. length l ≤ greatest_text_length) lines

-- the first word is a keyword
abbrev pub is_word : List ℕ → List ℕ → Bool
is_word keyword text = pointwise nat_eq (run Word (after_blanks text)) keyword

abbrev pub behind_word : List ℕ → List ℕ
behind_word text = behind Word (after_blanks text)

-- ---- the header
abbrev pub is_header : List ℕ → Bool
is_header content =
    is_word (codes "lie") content && is_word (codes "1") (behind_word content) && length
    (after_blanks (behind_word (behind_word content))) == 0

abbrev pub header_by : Option (List ℕ × List (List ℕ)) → ℕ → Result (List (List ℕ)) FileFail
header_by None left = Err (fails.Fault (record { kind = Header; lines_left = left; column = 1 }))
header_by (Some x) left = if is_header x.0 then Ok x.1 else Err (fault_at Header x.0 (length x.1) (after_blanks x.0))

unfoldable pub after_header : List (List ℕ) → Result (List (List ℕ)) FileFail
after_header lines = header_by (next_line lines) (length lines)

-- ---- names
-- the name that a word gives, where the line gave `count` names before and all names so far are `given`
abbrev pub name_of : List ℕ → ℕ → List ℕ → List ℕ → Result ℕ Stop
name_of given count [] text = Err (stop NameBad text)
name_of given count (c ∷ []) text =
    if is_in Letter c then
    (if nat_le greatest_variable_count count then Err (stop TooManyNames text)
    else if list_any (λ n. n == c) given then Err (stop NameTwice text)
    else Ok c)
    else Err (stop NameBad text)
name_of given count (c ∷ d ∷ cs) text = Err (stop NameBad text)

-- a further name, or the end of the line
abbrev pub name_by : ℕ → List ℕ → List ℕ → Result (Turn (List ℕ) (List ℕ × List ℕ)) Stop
name_by before given [] = Ok (ends (given, []))
name_by before given (c ∷ cs) =
    name_of given (length given - before) (run Word (c ∷ cs)) (c ∷ cs) >>= λ n. Ok (goes_on (given ++ n ∷ []) (behind Word (c ∷ cs)))

abbrev pub name_turn : ℕ → List ℕ → List ℕ → Result (Turn (List ℕ) (List ℕ × List ℕ)) Stop
name_turn before given text = name_by before given (after_blanks text)

-- what the reader of one name answers: a further name, or the end of the line
abbrev pub name_turn_of : List ℕ → List ℕ → Option (ℕ × Bor (List ℕ)) → Turn (List ℕ) (List ℕ × List ℕ)
name_turn_of given text (Some x) = goes_on (given ++ x.0 ∷ []) x.1.now
name_turn_of given text None = ends (given, after_blanks text)

abbrev pub some_names : ℕ → List ℕ × List ℕ → Result (List ℕ) Stop
some_names before x = if length x.0 == before then Err (stop Syntax x.1) else Ok x.0

-- the names given before and those of a text
unfoldable pub names_at : List ℕ → List ℕ → Result (List ℕ) Stop
names_at before text = all_turns (name_turn (length before)) before text >>= some_names (length before)

abbrev pub names_in : List ℕ → List ℕ → List ℕ → List (List ℕ) → Result (List ℕ × List (List ℕ)) FileFail
names_in keyword before content rest =
    if is_word keyword content then (in_line content (length rest) (names_at before (behind_word content)) >>= λ names. Ok (names, rest))
    else Err (fault_at UnknownWord content (length rest) (after_blanks content))

abbrev pub names_by : List ℕ → List ℕ → Option (List ℕ × List (List ℕ)) → Result (List ℕ × List (List ℕ)) FileFail
names_by keyword before None = Err fails.Ended
names_by keyword before (Some x) = names_in keyword before x.0 x.1

-- the names given before and those of the next line, which begins with a keyword, and the lines behind it
unfoldable pub names_of : List ℕ → List ℕ → List (List ℕ) → Result (List ℕ × List (List ℕ)) FileFail
names_of keyword before lines = names_by keyword before (next_line lines)
