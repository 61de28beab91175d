-- Reading the lines of a linear system.
use Rattle.std.specs.Prelude.{ℕ, ◌+◌, ◌-◌, ◌^◌, ◌==◌, nat_le, nat_lt, Bool, true, false, not, ◌&&◌, Some, None, if◌then◌else◌}
use Rattle.std.specs.Prelude.{List, [], ◌∷◌, ◌++◌, length, map, filter, take, drop, get_or}
use Rattle.std.specs.declared.option.Option.{Option}
use Rattle.std.specs.List.{list_any, range_with_len, slice_split}
use Rattle.lie_math.specs.LinearSystem.{Unknown}
use Rattle.lie_print.specs.Printing.{PrintedTerm}
use Rattle.lie_report.specs.Reports.{Named}
use Rattle.lie_scan.specs.Runs.{is_in}
use Rattle.lie_scan.specs.declared.runs.Class.TheVariants.{Letter}
use Rattle.lie_readback.specs.Readings.{◌>>=◌, read_each}
use Rattle.lie_readback.specs.Sums.{read_sum}

-- ---- names
-- the names of a line: what is no blank behind its keyword of four letters
abbrev pub names_in : List ℕ → List ℕ
names_in line = filter (λ b. not (b == 32)) (drop 4 line)

-- letters, each other than those behind it
abbrev pub are_names : List ℕ → Bool
are_names [] = true
are_names (n ∷ ns) = is_in Letter n && (not (list_any (λ m. m == n) ns) && are_names ns)

-- 1 to 4
abbrev pub is_count : ℕ → Bool
is_count n = nat_le 1 n && nat_le n 4

-- the independent and then the dependent variables, by their lines
unfoldable pub read_named : List ℕ → List ℕ → Option Named
read_named vars deps =
    if is_count (length (names_in vars)) && (is_count (length (names_in deps)) && are_names (names_in vars ++ names_in deps)) then
    Some (record {
      space = record { p = length (names_in vars); q = length (names_in deps) };
      names = names_in vars ++ names_in deps;
    })
    else None

-- ---- unknowns
-- whether the line begins with the letter of the lines of unknowns
abbrev pub is_free : List ℕ → Bool
is_free [] = false
is_free (c ∷ cs) = c == 102

-- the lines of unknowns in front, and those behind them
abbrev pub free_lines : List (List ℕ) → List (List ℕ)
free_lines [] = []
free_lines (l ∷ ls) = if is_free l then l ∷ free_lines ls else []

abbrev pub behind_free : List (List ℕ) → List (List ℕ)
behind_free [] = []
behind_free (l ∷ ls) = if is_free l then behind_free ls else l ∷ ls

-- for each name, whether it stands behind `free f`
abbrev pub stand_in : List ℕ → List ℕ → List Bool
stand_in names line = map (λ n. list_any (λ b. b == n) (drop 6 line)) names

abbrev pub variables_in : List ℕ → List ℕ → List ℕ
variables_in names line = filter (λ i. get_or (stand_in names line) i false) (range_with_len 0 8)

-- unknowns with the numbers from n on, one for each line
abbrev pub unknowns_in : List ℕ → ℕ → List (List ℕ) → List Unknown
unknowns_in names n [] = []
unknowns_in names n (l ∷ ls) = record { number = n; variables = variables_in names l } ∷ unknowns_in names (n + 1) ls

-- ---- systems
-- a system as it is written: the terms of its forms
pub record Draft : Type 0 where
  pub named : Named
  pub unknowns : List Unknown
  pub general : List (List PrintedTerm)
  pub equations : List (List PrintedTerm)

-- the sum behind `general x = `
abbrev pub read_component : List ℕ → List ℕ → Option (List PrintedTerm)
read_component names line = read_sum names (drop 12 line)

abbrev pub named_size : Named → ℕ
named_size N = (N.space).p + (N.space).q

-- the general forms and the equations of a system: between the two there is a line, and two parts are behind them
unfoldable pub read_forms : Named → List Unknown → List (List ℕ) → Option Draft
read_forms N us lines =
    if nat_lt (length lines) (named_size N + 3) then None
    else read_each (read_component N.names) [] (take (named_size N) lines) >>= λ general.
    read_each (read_sum N.names) [] (take (length lines - (named_size N + 3)) (drop (named_size N + 1) lines)) >>= λ equations.
    Some (record { named = N; unknowns = us; general = general; equations = equations })

-- the system whose lines these are, behind the names
unfoldable pub read_system : Named → List (List ℕ) → Option Draft
read_system N lines =
    if nat_lt (length (free_lines lines) + 1) (2 ^ 32) then read_forms N (unknowns_in N.names 1 (free_lines lines)) (behind_free lines)
    else None

-- a report of determining equations, by its lines
abbrev pub read_lines : List (List ℕ) → Option Draft
read_lines [] = None
read_lines (first ∷ []) = None
read_lines (first ∷ vars ∷ []) = None
read_lines (first ∷ vars ∷ deps ∷ body) = read_named vars deps >>= λ N. read_system N body
