-- The table of the brackets of a basis: for each two fields, the fractions of the basis whose sum their bracket is.
use Rattle.std.specs.Prelude.{◌≡◌, ℕ, ℤ, pos, List, [], ◌∷◌, ◌++◌, map, length, get_or, Vec}
use Rattle.std.specs.List.{AllByRecursion as Every, Contains}
use Rattle.std.specs.declared.alloc.Global.{Global}
use Rattle.lie_math.specs.VectorField.{VectorField}
use Rattle.lie_geometry.specs.Commutator.{commutator}
use Rattle.lie_geometry.specs.Coordinates.{Space}
use Rattle.lie_systems.specs.Works.{Made}
use Rattle.lie_spans.specs.Coordinates.{IsSumOf, IsLowest}
use Rattle.lie_spans.specs.Fields.{field_entry, IsCombination}
use Rattle.lie_ring.specs.declared.ratio.Ratio.{Ratio}
use Rattle.lie_brackets.specs.Bulks.{BracketMakes}

-- each two elements, in lexicographic order of their places
abbrev pub pairs_of : {X : Type 0} → List X → List (X × X)
pairs_of [] = []
pairs_of (x ∷ xs) = map (λ y. (x, y)) xs ++ pairs_of xs

-- the bracket of each two fields of the list is a combination of the list
abbrev pub IsClosed : Space → List VectorField → Type 0
IsClosed S Vs = Every (λ (pair : VectorField × VectorField). IsCombination Vs (commutator S pair.0 pair.1)) (pairs_of Vs)

-- ---- entries
-- the numerator and the denominator at a place, those of 0 past the end
abbrev pub numerator_in : List Ratio → ℕ → ℤ
numerator_in rs i = get_or (map (λ (r : Ratio). r.num) rs) i (pos 0)

abbrev pub denominator_in : List Ratio → ℕ → ℕ
denominator_in rs i = get_or (map (λ (r : Ratio). r.den) rs) i 1

-- one fraction in lowest terms for each field of the basis, and the bracket of the pair is the sum of the fields, each times its fraction
pub record IsEntry (S : Space) (Vs : List VectorField) (pair : VectorField × VectorField) (rs : List Ratio) : Type 0 where
  pub one_each : length rs ≡ length Vs
  pub lowest : Every (λ (r : Ratio). IsLowest r.num r.den) rs
  pub sum : IsSumOf field_entry Vs (numerator_in rs) (denominator_in rs) (field_entry (commutator S pair.0 pair.1))

-- an entry for each pair
abbrev pub AreEntries : Space → List VectorField → List (VectorField × VectorField) → List (List Ratio) → Type 0
AreEntries S Vs [] [] = Unit {0}
AreEntries S Vs [] (e ∷ es) = ⊥
AreEntries S Vs (pair ∷ pairs) [] = ⊥
AreEntries S Vs (pair ∷ pairs) (e ∷ es) = IsEntry S Vs pair e × AreEntries S Vs pairs es

-- the table of the basis
abbrev pub IsTable : Space → List VectorField → List (List Ratio) → Type 0
IsTable S Vs es = AreEntries S Vs (pairs_of Vs) es

-- the lists in the vectors
abbrev pub lists_of : List (Vec Ratio Global) → List (List Ratio)
lists_of es = map (λ (e : Vec Ratio Global). e.items) es

-- ---- the work
-- the actions are the brackets of the pairs
pub data TableMakes (S : Space) (Vs : List VectorField) : Made → Type 0 where
  bracket : (pair : VectorField × VectorField) → Contains (pairs_of Vs) pair
      → (b : Made) → BracketMakes S pair.0 pair.1 b → TableMakes S Vs b
