-- The first fault of a file: what stands before it by the grammar, what is wrong there, and its place.
use Rattle.std.specs.Prelude.{ℕ, ◌+◌, ◌≡◌, ◌≤◌, true, List, [], ◌∷◌, ◌++◌, length, Some, None, Ok, Err, codes}
use Rattle.std.specs.List.{list_any}
use Rattle.lie_geometry.specs.Coordinates.{Space}
use Rattle.std.specs.Prelude.{◌==◌}
use Rattle.lie_scan.specs.declared.fault.BadKind.TheVariants.{
  TooLong,
  NotAscii,
  Header,
  UnknownWord,
  NameBad,
  NameTwice,
  TooManyNames,
  TooManyEquations,
  Syntax,
}
use Rattle.lie_scan.specs.declared.fault.BadFile.{BadFile}
use Rattle.lie_scan.specs.declared.fault.ReadFail.{ReadFail}
use Rattle.lie_scan.specs.declared.fault.ReadFail.TheVariants as reads
use Rattle.std.specs.declared.result.Result.{Result}
use Rattle.lie_scan.specs.declared.runs.Class.TheVariants.{Letter, Word}
use Rattle.lie_scan.specs.declared.stop.Stop.{Stop}
use Rattle.lie_file.specs.declared.lines.FileFail.{FileFail}
use Rattle.lie_file.specs.declared.lines.FileFail.TheVariants as fails
use Rattle.lie_scan.specs.Runs.{is_in, after_blanks}
use Rattle.lie_scan.specs.Stops.{stop}
use Rattle.lie_system.specs.Systems.{EquationRead}
use Rattle.lie_scan.specs.TokenGrammar.{AreIn, AreBlanks}
use Rattle.lie_file.specs.FileGrammar.{IsWord, IsHeader, AreNames, IsNamesLine, IsEquationLine, AreAllowed, lines_of}
use Rattle.lie_file.specs.Places.{next_line, fault_at, placed, last_length, file_fault, not_allowed_from}
use Rattle.lie_scan.specs.Bad.{bad}
use Rattle.lie_scan.specs.LineFaults.{IsEquationFault}
use Rattle.lie_scan.specs.Limits.{greatest_text_length}
use Rattle.lie_jet.specs.Limits.{greatest_variable_count}
use Rattle.lie_system.specs.Limits.{greatest_equation_count}

-- ---- where the names of a line must come
abbrev pub IsLetter : List ℕ → Type 0
IsLetter word = (l : ℕ) × (word ≡ l ∷ []) × (is_in Letter l ≡ true)

pub data IsNamesFault (before text : List ℕ) : Stop → Type 0 where
  -- there is no word
  no_names : AreBlanks text → IsNamesFault before text (stop Syntax [])
  -- the word is not one letter
  bad_name : (names rest word behind : List ℕ) → AreNames before text names rest → length names ≤ greatest_variable_count
      → IsWord word rest behind
      → AreIn Word word → 1 ≤ length word → (IsLetter word → ⊥)
      → IsNamesFault before text (stop NameBad (after_blanks rest))
  -- four names are before
  fifth_name : (names rest word behind : List ℕ) → AreNames before text names rest → length names ≡ greatest_variable_count
      → IsWord word rest behind
      → IsLetter word → IsNamesFault before text (stop TooManyNames (after_blanks rest))
  -- the name is given before
  second_name : (names rest : List ℕ) (l : ℕ) (behind : List ℕ) → AreNames before text names rest → length names ≤ 3
      → IsWord (l ∷ []) rest behind → is_in Letter l ≡ true
      → list_any (λ m. m == l) (before ++ names) ≡ true → IsNamesFault before text (stop NameTwice (after_blanks rest))

-- ---- lines
-- the next line that is not skipped has this content, and these lines are behind it
abbrev pub IsNext : List (List ℕ) → List ℕ → List (List ℕ) → Type 0
IsNext lines content behind = next_line lines ≡ Some (content, behind)

-- the first word is no such keyword
abbrev pub IsOther : List ℕ → List ℕ → Type 0
IsOther keyword content = (behind : List ℕ) → IsWord keyword content behind → ⊥

pub data IsNamesLineFault (keyword before : List ℕ) (lines : List (List ℕ)) : FileFail → Type 0 where
  no_line : next_line lines ≡ None → IsNamesLineFault keyword before lines fails.Ended
  other_keyword : (content : List ℕ) (behind : List (List ℕ)) → IsNext lines content behind → IsOther keyword content
      → IsNamesLineFault keyword before lines (fault_at UnknownWord content (length behind) (after_blanks content))
  in_names : (content text : List ℕ) (behind : List (List ℕ)) (s : Stop) → IsNext lines content behind → IsWord keyword content text
      → IsNamesFault before text s
      → IsNamesLineFault keyword before lines (placed s content (length behind))

-- lines of equations, and then the rest
abbrev pub AreEquationLines : Space → List ℕ → List (List ℕ) → List EquationRead → List (List ℕ) → Type 0
AreEquationLines S names lines [] rest = lines ≡ rest
AreEquationLines S names lines (e ∷ es) rest = (content : List ℕ) ×
    (behind : List (List ℕ)) × IsNext lines content behind × IsEquationLine S names content e × AreEquationLines S names behind es rest

-- where an equation or the end must come, behind equations
pub data IsLineFault (S : Space) (names : List ℕ) (before : List EquationRead) (lines : List (List ℕ)) : FileFail → Type 0 where
  no_end : next_line lines ≡ None → IsLineFault S names before lines fails.Ended
  other_word : (content : List ℕ) (behind : List (List ℕ)) → IsNext lines content behind → IsOther (codes "eq") content
      → IsOther (codes "end") content
      → IsLineFault S names before lines (fault_at UnknownWord content (length behind) (after_blanks content))
  -- sixteen equations are before
  seventeenth : (content text : List ℕ) (behind : List (List ℕ)) → IsNext lines content behind → IsWord (codes "eq") content text
      → greatest_equation_count ≤ length before
      → IsLineFault S names before lines (fault_at TooManyEquations content (length behind) (after_blanks content))
  in_equation : (content text : List ℕ) (behind : List (List ℕ)) (s : Stop) → IsNext lines content behind
      → IsWord (codes "eq") content text → length before ≤ 15 → IsEquationFault S names text s
      → IsLineFault S names before lines (placed s content (length behind))
  -- no equation is before
  early_end : (content text : List ℕ) (behind : List (List ℕ)) → IsNext lines content behind → IsWord (codes "end") content text
      → before ≡ []
      → IsLineFault S names before lines (fault_at Syntax content (length behind) (after_blanks content))
  -- a further word is on the line of the end
  further_word : (content text : List ℕ) (behind : List (List ℕ)) → IsNext lines content behind → IsWord (codes "end") content text
      → 1 ≤ length before → 1 ≤ length (after_blanks text)
      → IsLineFault S names before lines (fault_at Syntax content (length behind) (after_blanks text))
  -- a line is behind the end
  behind_end : (content text : List ℕ) (behind : List (List ℕ)) (further : List ℕ) (rest : List (List ℕ)) → IsNext lines content behind
      → IsWord (codes "end") content text → 1 ≤ length before → AreBlanks text
      → IsNext behind further rest → IsLineFault S names before lines (fault_at UnknownWord further (length rest) (after_blanks further))

-- ---- files
pub data IsLinesFault (lines : List (List ℕ)) : FileFail → Type 0 where
  no_header : next_line lines ≡ None → IsLinesFault lines (fails.Fault (record { kind = Header; lines_left = length lines; column = 1 }))
  other_header : (content : List ℕ) (behind : List (List ℕ)) → IsNext lines content behind → (IsHeader content → ⊥)
      → IsLinesFault lines (fault_at Header content (length behind) (after_blanks content))
  in_vars : (header : List ℕ) (behind : List (List ℕ)) (f : FileFail) → IsNext lines header behind → IsHeader header
      → IsNamesLineFault (codes "vars") [] behind f → IsLinesFault lines f
  in_deps : (header vars independent : List ℕ) (behind rest : List (List ℕ)) (f : FileFail) → IsNext lines header behind → IsHeader header
      → IsNext behind vars rest → IsNamesLine (codes "vars") [] vars independent
      → IsNamesLineFault (codes "deps") independent rest f → IsLinesFault lines f
  in_equations : (header vars deps independent dependent : List ℕ) (behind rest body left : List (List ℕ)) (before : List EquationRead)
      (f : FileFail) → IsNext lines header behind → IsHeader header
      → IsNext behind vars rest → IsNamesLine (codes "vars") [] vars independent → IsNext rest deps body
      → IsNamesLine (codes "deps") independent deps dependent
      → AreEquationLines (record { p = length independent; q = length dependent }) (independent ++ dependent) body before left
      → length before ≤ greatest_equation_count
      → IsLineFault (record { p = length independent; q = length dependent }) (independent ++ dependent) before left f
      → IsLinesFault lines f

-- the first fault of bytes
pub data IsFault (bytes : List ℕ) : ReadFail → Type 0 where
  too_long : 65537 ≤ length bytes → IsFault bytes (bad 1 1 TooLong)
  not_allowed : (line column : ℕ) → length bytes ≤ greatest_text_length → not_allowed_from 1 1 bytes ≡ Some (line, column)
      → IsFault bytes (bad line column NotAscii)
  in_lines : (f : FileFail) → length bytes ≤ greatest_text_length → AreAllowed bytes → IsLinesFault (lines_of bytes) f
      → IsFault bytes (file_fault (lines_of bytes) f)

-- the fault that a call told, where it told one, is the first
abbrev pub IsFaultToldOf : {X : Type 0} → List ℕ → Result X ReadFail → Type 0
IsFaultToldOf bytes (Ok x) = Unit {0}
IsFaultToldOf bytes (Err reads.NoMemory) = Unit {0}
IsFaultToldOf bytes (Err (reads.Bad b)) = IsFault bytes (reads.Bad b)

-- ---- places
-- before the place stand these bytes: as many lines as its line says, and in the last of them one byte less than its column says
pub record IsPlaceIn (bytes : List ℕ) (bad : BadFile) : Type 0 where
  pub before : List ℕ
  pub rest : List ℕ
  pub parted : bytes ≡ before ++ rest
  pub line : bad.line ≡ length (lines_of before)
  pub column : bad.column ≡ last_length (lines_of before) + 1
