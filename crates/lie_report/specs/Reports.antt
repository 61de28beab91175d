-- What a report is.
use Rattle.std.specs.Prelude.{ℕ, List, map, option_map, Option}
use Rattle.std.specs.Global.{Vec}
use Rattle.lie_math.specs.LinearSystem.{LinearSystem}
use Rattle.lie_math.specs.VectorField.{VectorField}
use Rattle.lie_geometry.specs.Coordinates.{Space}
use Rattle.lie_ring.specs.declared.ratio.Ratio.{Ratio}
use Rattle.lie_report.specs.declared.reports.Report as kept
use Rattle.lie_report.specs.declared.reports.Report.TheVariants.{Determining, Symmetries, Degree}
use Rattle.lie_report.specs.declared.reports.Found as kept_found

-- the numbers of variables, and the letter of each, the independent ones first
pub record Named : Type 0 where
  pub space : Space
  pub names : List ℕ

-- generators, and for each pair of them, in order, the combination of them that is their commutator: a ratio for each
pub record Found : Type 0 where
  pub fields : List VectorField
  pub table : List (List Ratio)

-- a report of the determining equations; of the symmetries, with a basis where there is one; of the fields up to a degree
pub data Report : Type 0 where
  determining : Named → LinearSystem → Report
  symmetries : Named → LinearSystem → Option Found → Report
  degree : Named → ℕ → List VectorField → Report

abbrev pub entry_of : Vec Ratio → List Ratio
entry_of rs = rs.items

abbrev pub found_of : kept_found.Found → Found
found_of f = record { fields = f.fields.items; table = map entry_of f.table.entries.items }

-- the report that a value of the program is
abbrev pub report_of : kept.Report → Report
report_of (Determining names system) = determining (record { space = system.space; names = names }) system.system
report_of (Symmetries names system found) =
    symmetries (record { space = system.space; names = names }) system.system (option_map found_of found)
report_of (Degree names space most fields) = degree (record { space = space; names = names }) most fields.items
