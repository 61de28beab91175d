-- Reading the lines of reports.
use Rattle.std.specs.Prelude.{ℕ, ◌+◌, ◌-◌, ◌^◌, ◌==◌, nat_lt, Bool, true, false, Some, None, if◌then◌else◌}
use Rattle.std.specs.Prelude.{List, [], ◌∷◌, length, take, drop}
use Rattle.std.specs.declared.option.Option.{Option}
use Rattle.std.specs.List.{slice_split}
use Rattle.lie_ring.specs.declared.ratio.Ratio.{Ratio}
use Rattle.lie_print.specs.Printing.{PrintedTerm}
use Rattle.lie_report.specs.Reports.{Named}
use Rattle.lie_scan.specs.Tokens.{value_of}
use Rattle.lie_readback.specs.Readings.{◌>>=◌, read_each}
use Rattle.lie_readback.specs.Sums.{sum_of_words}
use Rattle.lie_readback.specs.SystemDrafts.{Draft, read_named, read_lines}
use Rattle.lie_read_report.specs.Combinations.{read_entry}

-- ---- places of lines
abbrev pub begins_with : ℕ → List ℕ → Bool
begins_with letter [] = false
begins_with letter (c ∷ cs) = c == letter

abbrev pub after_first : Option ℕ → Bool → Option ℕ
after_first (Some i) here = Some (i + 1)
after_first None here = if here then Some 0 else None

-- how many lines are before the last one that begins with this letter
abbrev pub last_place : ℕ → List (List ℕ) → Option ℕ
last_place letter [] = None
last_place letter (l ∷ ls) = after_first (last_place letter ls) (begins_with letter l)

-- ---- fields
-- the terms behind a generator and `=`
abbrev pub field_in : List ℕ → List (List ℕ) → Option (List PrintedTerm)
field_in names [] = None
field_in names (v ∷ []) = None
field_in names (v ∷ e ∷ words) = sum_of_words names words

abbrev pub read_field : List ℕ → List ℕ → Option (List PrintedTerm)
read_field names line = field_in names (slice_split (λ b. b == 32) line)

-- ---- bases
-- a basis as it is written: the terms of its fields, and its commutators
pub record BasisDraft : Type 0 where
  pub fields : List (List PrintedTerm)
  pub table : List (List Ratio)

-- n fields and then their commutators: between the two there is a line, and two parts are behind them
unfoldable pub read_found : List ℕ → ℕ → List (List ℕ) → Option BasisDraft
read_found names n lines =
    if nat_lt (length lines) (n + 3) then None
    else read_each (read_field names) [] (take n lines) >>= λ fields.
    read_each (read_entry n) [] (take (length lines - (n + 3)) (drop (n + 1) lines)) >>= λ table.
    Some (record { fields = fields; table = table })

-- whether `-` stands behind `generators `
abbrev pub is_dash : List ℕ → Bool
is_dash [] = false
is_dash (c ∷ cs) = c == 45

abbrev pub has_none : List ℕ → Bool
has_none line = is_dash (drop 11 line)

-- a basis where there is one, by the lines from that of the number of generators on
unfoldable pub read_basis : List ℕ → List (List ℕ) → Option (Option BasisDraft)
read_basis names [] = None
read_basis names (first ∷ lines) =
    if has_none first then Some None
    else last_place 99 lines >>= λ n. read_found names n lines >>= λ B. Some (Some B)

-- ---- reports
-- a report as it is written
pub data ReportDraft : Type 0 where
  determining : Draft → ReportDraft
  symmetries : Draft → Option BasisDraft → ReportDraft
  degree : Named → ℕ → List (List PrintedTerm) → ReportDraft

-- a report of symmetries: the line of the number of generators is the last one that begins with g
unfoldable pub read_symmetries : List (List ℕ) → Option ReportDraft
read_symmetries lines =
    last_place 103 lines >>= λ k. read_lines (take (k + 2) lines) >>= λ D.
    read_basis ((D.named).names) (drop k lines) >>= λ B. Some (symmetries D B)

-- the number behind `degree `, which is kept in 8 bits
abbrev pub guarded : ℕ → Option ℕ
guarded n = if nat_lt n (2 ^ 8) then Some n else None

abbrev pub read_most : List ℕ → Option ℕ
read_most line = value_of (drop 7 line) >>= guarded

-- the fields of a report up to a degree: two parts are behind them
abbrev pub read_fields : List ℕ → List (List ℕ) → Option (List (List PrintedTerm))
read_fields names lines = read_each (read_field names) [] (take (length lines - 2) lines)

unfoldable pub read_degree : List (List ℕ) → Option ReportDraft
read_degree [] = None
read_degree (first ∷ []) = None
read_degree (first ∷ vars ∷ []) = None
read_degree (first ∷ vars ∷ deps ∷ []) = None
read_degree (first ∷ vars ∷ deps ∷ most ∷ []) = None
read_degree (first ∷ vars ∷ deps ∷ most ∷ count ∷ lines) =
    read_named vars deps >>= λ N. read_most most >>= λ n. read_fields N.names lines >>= λ Vs. Some (degree N n Vs)

abbrev pub read_determining : List (List ℕ) → Option ReportDraft
read_determining lines = read_lines lines >>= λ D. Some (determining D)

-- a report by its lines: the seventh byte of the first one tells the kind
abbrev pub read_kind : ℕ → List (List ℕ) → Option ReportDraft
read_kind c lines =
    if c == 116 then read_determining lines
    else if c == 109 then read_symmetries lines
    else if c == 103 then read_degree lines
    else None

abbrev pub read_from : List ℕ → List (List ℕ) → Option ReportDraft
read_from [] lines = None
read_from (c ∷ cs) lines = read_kind c lines

unfoldable pub read_text : List ℕ → Option ReportDraft
read_text text = read_from (drop 6 text) (slice_split (λ b. b == 10) text)
