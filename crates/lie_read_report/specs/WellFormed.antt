-- Well formed reports: those that have a text of their own.
use Rattle.std.specs.Prelude.{◌≡◌, ℕ, ◌+◌, ◌*◌, ◌-◌, ◌<◌, ◌≤◌, ◌^◌, unsigned_abs, List, [], ◌∷◌, length, map, option_map, None, Some, ltb}
use Rattle.std.specs.declared.option.Option.{Option}
use Rattle.std.specs.Int.{IsGcd}
use Rattle.std.specs.List.{AllByRecursion as Every}
use Rattle.lie_math.specs.Limits.{IsWithinLimits}
use Rattle.lie_math.specs.Polynomial.{WholePolynomial}
use Rattle.lie_math.specs.Variables.{IsIn}
use Rattle.lie_math.specs.VectorField.{VectorField}
use Rattle.lie_ring.specs.declared.ratio.Ratio.{Ratio}
use Rattle.lie_report.specs.Reports.{Named, Found, Report, determining, symmetries, degree}
use Rattle.lie_readback.specs.Groups.{drafted}
use Rattle.lie_readback.specs.WellFormed.{AreNamed, size, IsWellDrafted, IsWellFormed as IsWellFormedSystem}
use Rattle.lie_read_report.specs.FieldTerms.{written_field}
use Rattle.lie_read_report.specs.ReportDrafts.{BasisDraft, ReportDraft}
use Rattle.lie_read_report.specs.ReportDrafts as written

-- ---- fields
-- a polynomial within the limits, in the variables below n
pub record IsReportedPart (n : ℕ) (P : WholePolynomial) : Type 0 where
  pub within : IsWithinLimits P
  pub below : IsIn (λ v. ltb v n) P

-- a field with n parts over 1
pub record IsReportedField (n : ℕ) (V : VectorField) : Type 0 where
  pub over_one : V.denominator ≡ 1
  pub size : length V.parts ≡ n
  pub parts : Every (IsReportedPart n) V.parts

-- as many fields as a number of 64 bits can say
pub record AreReportedFields (n : ℕ) (Vs : List VectorField) : Type 0 where
  pub few : length Vs < 2 ^ 64
  pub each : Every (IsReportedField n) Vs

-- ---- tables
-- in lowest terms, up to 2^127 - 1
pub record IsReportedRatio (r : Ratio) : Type 0 where
  pub num : unsigned_abs r.num < 2 ^ 127
  pub den : r.den < 2 ^ 127
  pub positive : 1 ≤ r.den
  pub lowest : IsGcd (unsigned_abs r.num) r.den 1

-- a ratio for each of n generators
pub record IsReportedEntry (n : ℕ) (rs : List Ratio) : Type 0 where
  pub size : length rs ≡ n
  pub each : Every IsReportedRatio rs

-- an entry for each pair of n generators, as many as a number of 64 bits can say
pub record IsReportedTable (n : ℕ) (table : List (List Ratio)) : Type 0 where
  pub few : length table < 2 ^ 64
  pub pairs : 2 * length table ≡ n * (n - 1)
  pub each : Every (IsReportedEntry n) table

-- ---- reports
pub record IsReportedBasis (n : ℕ) (B : Found) : Type 0 where
  pub fields : AreReportedFields n B.fields
  pub table : IsReportedTable (length B.fields) B.table

abbrev pub IsReportedFound : ℕ → Option Found → Type 0
IsReportedFound n None = Unit {0}
IsReportedFound n (Some B) = IsReportedBasis n B

-- a report with a text of its own
abbrev pub IsWellFormed : Report → Type 0
IsWellFormed (determining N T) = IsWellFormedSystem (N, T)
IsWellFormed (symmetries N T found) = IsWellFormedSystem (N, T) × IsReportedFound (size N) found
IsWellFormed (degree N most Vs) = AreNamed N × ((most < 2 ^ 8) × AreReportedFields (size N) Vs)

-- ---- what is written of reports
abbrev pub basis_written : Found → BasisDraft
basis_written B = record { fields = map written_field B.fields; table = B.table }

abbrev pub report_written : Report → ReportDraft
report_written (determining N T) = written.determining (drafted (N, T))
report_written (symmetries N T found) = written.symmetries (drafted (N, T)) (option_map basis_written found)
report_written (degree N most Vs) = written.degree N most (map written_field Vs)

-- names and unknowns are as those of a report, and a degree is kept in 8 bits
abbrev pub IsWellWritten : ReportDraft → Type 0
IsWellWritten (written.determining D) = IsWellDrafted D
IsWellWritten (written.symmetries D B) = IsWellDrafted D
IsWellWritten (written.degree N most fields) = AreNamed N × (most < 2 ^ 8)
