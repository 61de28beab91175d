-- Coordinates as the reader keeps them.
use Rattle.std.specs.Prelude.{ℕ, ◌≡◌, ◌-◌, ◌≤◌, ◌<◌, List, length, take, drop, replicate}
use Rattle.lie_math.specs.Counts.{order}
use Rattle.lie_geometry.specs.Coordinates.{Space, Coordinate, independent}
use Rattle.lie_jet.specs.Jets.{coordinate_of, IsJet}
use Rattle.lie_scan.specs.declared.coordinate.Variable.{Variable}
use Rattle.lie_scan.specs.declared.coordinate.Variable.TheVariants.{Independent, Dependent}
use Rattle.lie_jet.specs.Limits.{greatest_jet_order}

abbrev pub seen : Space → Variable → Coordinate
seen S (Independent i) = independent i
seen S (Dependent j) = coordinate_of S j

-- a coordinate of the space that has a number
abbrev pub IsVariable : Space → Variable → Type 0
IsVariable S (Independent i) = i < S.p
IsVariable S (Dependent j) = IsJet S greatest_jet_order j

-- four counts, of which those behind the names are 0, and whose sum is at most n
pub record AreCounts (names : List ℕ) (n : ℕ) (J : List ℕ) : Type 0 where
  pub four : length J ≡ 4
  pub rest : drop (length names) J ≡ replicate (4 - length names) 0
  pub low : order (take (length names) J) ≤ n
