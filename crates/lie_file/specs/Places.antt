-- The places of faults in files.
use Rattle.std.specs.Prelude.{ℕ, ◌+◌, ◌-◌, ◌==◌, List, [], ◌∷◌, length, if◌then◌else◌, Some, None}
use Rattle.std.specs.declared.option.Option.{Option}
use Rattle.lie_scan.specs.declared.fault.BadKind.{BadKind}
use Rattle.lie_scan.specs.declared.fault.BadKind.TheVariants.{EndMissing}
use Rattle.lie_scan.specs.declared.fault.ReadFail.{ReadFail}
use Rattle.lie_scan.specs.declared.fault.ReadFail.TheVariants as reads
use Rattle.lie_scan.specs.declared.runs.Class.TheVariants.{Content}
use Rattle.lie_scan.specs.declared.stop.Stop.{Stop}
use Rattle.lie_file.specs.declared.lines.FileFail.{FileFail}
use Rattle.lie_file.specs.declared.lines.FileFail.TheVariants as fails
use Rattle.lie_scan.specs.Bad.{bad}
use Rattle.lie_scan.specs.Runs.{run, after_blanks}
use Rattle.lie_file.specs.FileGrammar.{is_allowed}

-- ---- lines
-- the next line that is not skipped: its content, and the lines behind it
abbrev pub next_line : List (List ℕ) → Option (List ℕ × List (List ℕ))
next_line [] = None
next_line (l ∷ ls) = if length (after_blanks (run Content l)) == 0 then next_line ls else Some (run Content l, ls)

-- ---- places in a line
-- a fault in the content of a line, at its last bytes `text`, where `left` lines are behind it
abbrev pub fault_at : BadKind → List ℕ → ℕ → List ℕ → FileFail
fault_at kind content left text = fails.Fault (record { kind = kind; lines_left = left + 1; column = length content - length text + 1 })

abbrev pub placed : Stop → List ℕ → ℕ → FileFail
placed s content left = fails.Fault (record { kind = s.kind; lines_left = left + 1; column = length content - s.left + 1 })

-- ---- places in a file
-- the length of the last line, n where there is none
abbrev pub last_from : ℕ → List (List ℕ) → ℕ
last_from n [] = n
last_from n (l ∷ ls) = last_from (length l) ls

abbrev pub last_length : List (List ℕ) → ℕ
last_length lines = last_from 0 lines

-- the fault of a file of these lines with its place
abbrev pub file_fault : List (List ℕ) → FileFail → ReadFail
file_fault lines (fails.Fault s) = bad (length lines - s.lines_left + 1) s.column s.kind
file_fault lines fails.Ended = bad (length lines) (last_length lines + 1) EndMissing
file_fault lines fails.NoMemory = reads.NoMemory

-- the line and column of the first byte that is not allowed
abbrev pub not_allowed_from : ℕ → ℕ → List ℕ → Option (ℕ × ℕ)
not_allowed_from line column [] = None
not_allowed_from line column (b ∷ bs) =
    if is_allowed b bs then (if b == 10 then not_allowed_from (line + 1) 1 bs else not_allowed_from line (column + 1) bs)
    else Some (line, column)
