-- Reading the bytes of a file.
use Rattle.std.specs.Prelude.{ℕ, nat_lt, List, length, if◌then◌else◌, Some, None, Ok, Err}
use Rattle.std.specs.declared.option.Option.{Option}
use Rattle.std.specs.declared.result.Result.{Result}
use Rattle.lie_scan.specs.declared.fault.BadKind.TheVariants.{TooLong, NotAscii}
use Rattle.lie_scan.specs.declared.fault.ReadFail.{ReadFail}
use Rattle.lie_file.specs.declared.lines.FileFail.{FileFail}
use Rattle.lie_scan.specs.Bad.{bad}
use Rattle.lie_file.specs.Places.{file_fault, not_allowed_from}
use Rattle.lie_file.specs.FileGrammar.{lines_of}
use Rattle.lie_file.specs.Files.{system_of}
use Rattle.lie_system.specs.Systems.{SystemRead}
use Rattle.lie_scan.specs.Limits.{greatest_text_length}

abbrev pub with_place : List (List ℕ) → Result SystemRead FileFail → Result SystemRead ReadFail
with_place lines (Ok s) = Ok s
with_place lines (Err e) = Err (file_fault lines e)

abbrev pub read_lines : List (List ℕ) → Result SystemRead ReadFail
read_lines lines = with_place lines (system_of lines)

abbrev pub read_by : Option (ℕ × ℕ) → List ℕ → Result SystemRead ReadFail
read_by (Some p) bytes = Err (bad p.0 p.1 NotAscii)
read_by None bytes = read_lines (lines_of bytes)

-- the system that bytes spell, or their first fault
unfoldable pub read : List ℕ → Result SystemRead ReadFail
read bytes = if nat_lt greatest_text_length (length bytes) then Err (bad 1 1 TooLong) else read_by (not_allowed_from 1 1 bytes) bytes
