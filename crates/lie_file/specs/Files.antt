-- Reading equations and whole files.
use Rattle.std.specs.Prelude.{ℕ, ◌-◌, ◌==◌, nat_le, List, [], ◌∷◌, ◌++◌, length, if◌then◌else◌, Some, None, Ok, Err, codes}
use Rattle.std.specs.declared.option.Option.{Option}
use Rattle.std.specs.declared.result.Result.{Result}
use Rattle.lie_math.specs.Polynomial.{polynomial_of}
use Rattle.lie_geometry.specs.Coordinates.{Space}
use Rattle.lie_scan.specs.declared.fault.BadKind.TheVariants.{UnknownWord, TooManyEquations, Syntax}
use Rattle.lie_scan.specs.declared.runs.Class.TheVariants.{Content}
use Rattle.lie_scan.specs.declared.stop.Stop.{Stop}
use Rattle.lie_file.specs.declared.lines.FileFail.{FileFail}
use Rattle.lie_file.specs.declared.lines.FileFail.TheVariants as fails
use Rattle.lie_scan.specs.Runs.{run, after_blanks}
use Rattle.lie_scan.specs.Stops.{◌>>=◌}
use Rattle.lie_scan.specs.Terms.{equation_of}
use Rattle.lie_file.specs.Leads.{lead_of}
use Rattle.lie_system.specs.Systems.{EquationRead, SystemRead}
use Rattle.lie_file.specs.Places.{fault_at, next_line}
use Rattle.lie_file.specs.FileLines.{in_line, is_word, behind_word, after_header, names_of}
use Rattle.lie_system.specs.Limits.{greatest_equation_count}

unfoldable pub equation_at : Space → List ℕ → List ℕ → Result EquationRead Stop
equation_at S names text = equation_of S names text >>= λ ts. Ok (record { lead = lead_of S names text; diff = polynomial_of ts })

-- only skipped lines are behind
abbrev pub nothing_behind : Option (List ℕ × List (List ℕ)) → Result (Unit {0}) FileFail
nothing_behind None = Ok tt
nothing_behind (Some x) = Err (fault_at UnknownWord x.0 (length x.1) (after_blanks x.0))

-- the end: no further word is on its line, and only skipped lines are behind
abbrev pub end_of : List ℕ → List (List ℕ) → Result (Unit {0}) FileFail
end_of content rest =
    if length (after_blanks (behind_word content)) == 0 then nothing_behind (next_line rest)
    else Err (fault_at Syntax content (length rest) (after_blanks (behind_word content)))

-- the equation of a line behind `count` others; none where the line is the end
abbrev pub equation_line : Space → List ℕ → ℕ → List ℕ → List (List ℕ) → Result (Option EquationRead) FileFail
equation_line S names count content rest =
    if nat_le greatest_equation_count count then Err (fault_at TooManyEquations content (length rest) (after_blanks content))
    else in_line content (length rest) (equation_at S names (behind_word content)) >>= λ e. Ok (Some e)

abbrev pub end_line : ℕ → List ℕ → List (List ℕ) → Result (Option EquationRead) FileFail
end_line count content rest =
    if count == 0 then Err (fault_at Syntax content (length rest) (after_blanks content))
    else end_of content rest >>= λ _. Ok None

unfoldable pub line_of : Space → List ℕ → ℕ → List ℕ → List (List ℕ) → Result (Option EquationRead) FileFail
line_of S names count content rest =
    if is_word (codes "eq") content then equation_line S names count content rest
    else if is_word (codes "end") content then end_line count content rest
    else Err (fault_at UnknownWord content (length rest) (after_blanks content))

abbrev pub further : (List EquationRead → Result (List EquationRead) FileFail) → List EquationRead → Option EquationRead
    → Result (List EquationRead) FileFail
further f es None = Ok es
further f es (Some e) = f (es ++ e ∷ [])

-- the equations so far and those of the lines up to the end
abbrev pub equations_from : Space → List ℕ → List EquationRead → List (List ℕ) → Result (List EquationRead) FileFail
equations_from S names es [] = Err fails.Ended
equations_from S names es (l ∷ ls) =
    if length (after_blanks (run Content l)) == 0 then equations_from S names es ls
    else line_of S names (length es) (run Content l) ls >>= further (λ more. equations_from S names more ls) es

abbrev pub space_of : List ℕ → List ℕ → Space
space_of independent names = record { p = length independent; q = length names - length independent }

-- the system of the lines of a file
unfoldable pub system_of : List (List ℕ) → Result SystemRead FileFail
system_of lines =
    after_header lines >>= λ ls. names_of (codes "vars") [] ls >>= λ v. names_of (codes "deps") v.0 v.1 >>= λ d.
    equations_from (space_of v.0 d.0) d.0 [] d.1 >>= λ es. Ok (record { space = space_of v.0 d.0; names = d.0; equations = es })
