-- Lists of jets in coordinate order, and what is said of them one after the other.
use Rattle.std.specs.Prelude.{◌≡◌, ℕ, suc, ◌+◌, ◌<◌, ◌≤◌, List, map, length, slice_index_or, All}
use Rattle.std.specs.List.{range_with_len}
use Rattle.lie_geometry.specs.Coordinates.{Space, Coordinate, jets_below, number, coordinates_up_to, coordinate}
use Rattle.lie_jet.specs.Jets.{coordinate_of, IsJet}
use Rattle.lie_jet.specs.declared.jet.Jet.{Jet}

-- the jets of order 0 to n in coordinate order: their numbers are p, p + 1 and so on
pub record AreJetsUpTo (S : Space) (n : ℕ) (js : List Jet) : Type 0 where
  pub jets : All (IsJet S n) js
  pub numbers : map (λ j. number S (coordinate_of S j)) js ≡ range_with_len S.p (jets_below S (suc n))

-- each of these jets, and f at it
pub record AreValuesUpTo {A : Type 0} (S : Space) (n : ℕ) (f : Coordinate → A) (vs : List (Jet × A)) : Type 0 where
  pub jets : AreJetsUpTo S n (map (λ v. v.0) vs)
  pub values : All (λ v. v.1 ≡ f (coordinate_of S v.0)) vs

-- the first of these values: at the k-th place f at the coordinate with the number p + k
pub record AreFirstValues {A : Type 0} (S : Space) (f : Coordinate → A) (vs : List (Jet × A)) : Type 0 where
  pub at : (k : ℕ) (d : Jet × A) → k < length vs → (slice_index_or vs k d).1 ≡ f (coordinate S (S.p + k))

-- Good holds at each of these jets
abbrev pub HoldsUpTo : Space → ℕ → (Coordinate → Type 0) → Type 0
HoldsUpTo S n Good = (w : ℕ) → S.p ≤ w → w < coordinates_up_to S n → Good (coordinate S w)

-- Bad holds at one of these jets, and Good at each before it
pub record ComesFirst (S : Space) (n : ℕ) (Good Bad : Coordinate → Type 0) : Type 0 where
  pub place : ℕ
  pub after : S.p ≤ place
  pub within : place < coordinates_up_to S n
  pub before : (w : ℕ) → S.p ≤ w → w < place → Good (coordinate S w)
  pub here : Bad (coordinate S place)
