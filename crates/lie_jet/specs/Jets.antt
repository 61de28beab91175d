-- Jets as coordinates.
use Rattle.std.specs.Prelude.{◌≡◌, ℕ, ◌<◌, ◌≤◌, ◌-◌, length, take, drop, replicate}
use Rattle.lie_math.specs.Counts.{order}
use Rattle.lie_geometry.specs.Coordinates.{Space, Coordinate, jet}
use Rattle.lie_jet.specs.Limits.{greatest_variable_count}
use Rattle.lie_jet.specs.declared.jet.Jet.{Jet}

-- 1 to 4 variables of each kind
pub record IsSmall (S : Space) : Type 0 where
  pub some_p : 0 < S.p
  pub few_p : S.p ≤ greatest_variable_count
  pub some_q : 0 < S.q
  pub few_q : S.q ≤ greatest_variable_count

-- the coordinate: the counts by the p independent variables
abbrev pub coordinate_of : Space → Jet → Coordinate
coordinate_of S j = jet j.dep (take S.p j.counts)

-- a jet of the space of order at most n: it has no counts past the p-th
pub record IsJet (S : Space) (n : ℕ) (j : Jet) : Type 0 where
  pub space : IsSmall S
  pub dependent : j.dep < S.q
  pub four : length j.counts ≡ greatest_variable_count
  pub rest : drop S.p j.counts ≡ replicate (greatest_variable_count - S.p) 0
  pub low : order (take S.p j.counts) ≤ n
