-- The text of a report.
use Rattle.std.specs.Prelude.{ℕ, List, [], ◌∷◌, ◌++◌, codes, decimal}
use Rattle.lie_math.specs.LinearSystem.{LinearSystem}
use Rattle.lie_geometry.specs.Coordinates.{Space}
use Rattle.lie_report.specs.Reports.{Report, determining, symmetries, degree}
use Rattle.lie_report.specs.SystemLines.{lines_text, head_lines, system_lines}
use Rattle.lie_report.specs.BasisLines.{generator_lines, basis_lines}

-- the lines of a report but the last
abbrev pub report_body : Report → List (List ℕ)
report_body (determining N T) = head_lines (codes "lie determining 1") N ++ system_lines N T
report_body (symmetries N T found) =
    head_lines (codes "lie symmetries 1, polynomial components only") N ++ system_lines N T ++ basis_lines N found
report_body (degree N most fields) = head_lines (codes "lie degree 1") N ++ (codes "degree " ++ decimal most) ∷ generator_lines N fields

-- the lines of a report, each with its end
unfoldable pub report_text : Report → List ℕ
report_text R = lines_text (report_body R ++ codes "end" ∷ [])

-- the text of the report of the determining equations of a system
abbrev pub report : Space → List ℕ → LinearSystem → List ℕ
report S names T = report_text (determining (record { space = S; names = names }) T)
