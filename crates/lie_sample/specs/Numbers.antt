-- The line that tells the numbers of a report of symmetries.
use Rattle.std.specs.Prelude.{ℕ, List, ◌++◌, length, codes, decimal, Option, Some, None}
use Rattle.lie_math.specs.LinearSystem.{LinearSystem}
use Rattle.lie_report.specs.Reports.{Found}

-- how many generators there are; a dash where there is no basis
abbrev pub generator_count : Option Found → List ℕ
generator_count None = codes "-"
generator_count (Some B) = decimal (length B.fields)

-- of the k-th member: how many unknowns, equations that remain and generators its report has
unfoldable pub numbers_line : ℕ → LinearSystem → Option Found → List ℕ
numbers_line k T found =
    decimal k ++ codes ": unknowns " ++ decimal (length T.unknowns) ++ codes ", remaining " ++ decimal (length T.equations)
    ++ codes ", generators " ++ generator_count found ++ codes "\n"
