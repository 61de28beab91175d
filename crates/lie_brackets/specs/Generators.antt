-- The fields of a basis as lists of terms, with the places of their pivots, and the entries of a table that are made so far.
use Rattle.std.specs.Prelude.{◌≡◌, ℕ, zero, suc, ◌<◌, ◌≤◌, ℤ, pos, List, [], ◌∷◌, ◌++◌, length, map, take, drop, get_or}
use Rattle.std.specs.List.{AllByRecursion as Every}
use Rattle.lie_math.specs.Monomial.{Monomial, degree, unit}
use Rattle.lie_math.specs.VectorField.{VectorField}
use Rattle.lie_geometry.specs.Coordinates.{Space}
use Rattle.lie_systems.specs.Works.{IsWorkWithin}
use Rattle.lie_spans.specs.Fields.{Column, field_entry}
use Rattle.lie_ring.specs.Ratios.{IsRatio}
use Rattle.lie_ring.specs.declared.ratio.Ratio.{Ratio}
use Rattle.lie_brackets.specs.Bulks.{BracketMakes}
use Rattle.lie_brackets.specs.FieldTerms.{Part, field_of_terms, AreTermsOn}
use Rattle.lie_brackets.specs.Tables.{AreEntries}
use Rattle.lie_brackets.specs.declared.generators.Generator.{Generator}

-- ---- pivots
-- the term at a place, 0 past the end
abbrev pub term_at : List (Monomial × ℤ) → ℕ → Monomial × ℤ
term_at ts i = get_or ts i (unit, pos 0)

-- the terms of a part, none past the end
abbrev pub terms_at : List Part → ℕ → List (Monomial × ℤ)
terms_at xs s = get_or (map (λ (x : Part). x.items) xs) s []

-- the first of the terms with the least degree
pub record IsFirstLowest (ts : List (Monomial × ℤ)) (i : ℕ) : Type 0 where
  pub inside : i < length ts
  pub lowest : (j : ℕ) → j < length ts → degree (term_at ts i).0 ≤ degree (term_at ts j).0
  pub first : (j : ℕ) → j < i → degree (term_at ts i).0 < degree (term_at ts j).0

-- the first part that has a term, and there the first of the lowest terms
pub record IsPivotPlace (xs : List Part) (s i : ℕ) : Type 0 where
  pub inside : s < length xs
  pub before : (t : ℕ) → t < s → length (terms_at xs t) ≡ 0
  pub here : IsFirstLowest (terms_at xs s) i

-- ---- generators
abbrev pub field_of_generator : Generator → VectorField
field_of_generator g = field_of_terms g.parts.items

abbrev pub pivot_column : Generator → Column
pivot_column g = (g.part, (term_at (terms_at g.parts.items g.part) g.place).0)

pub record IsGenerator (S : Space) (g : Generator) : Type 0 where
  pub parts : AreTermsOn S g.parts.items
  pub pivot : IsPivotPlace g.parts.items g.part g.place

abbrev pub fields_of : List Generator → List VectorField
fields_of gs = map field_of_generator gs

-- each fraction is the entry of the field in the pivot column of its generator, over that of the generator
abbrev pub AreCoordinates : VectorField → List Generator → List Ratio → Type 0
AreCoordinates W [] [] = Unit {0}
AreCoordinates W [] (r ∷ rs) = ⊥
AreCoordinates W (g ∷ gs) [] = ⊥
AreCoordinates W (g ∷ gs) (r ∷ rs) =
    IsRatio (field_entry W (pivot_column g)) (field_entry (field_of_generator g) (pivot_column g)) r × AreCoordinates W gs rs

-- ---- entries so far
-- the element at i with each later one before j
abbrev pub pairs_from : {X : Type 0} → ℕ → ℕ → List X → List (X × X)
pairs_from i j xs = map (λ y. (get_or xs i y, y)) (drop (suc i) (take j xs))

-- the pairs whose first element stands before i
abbrev pub pairs_before : {X : Type 0} → ℕ → List X → List (X × X)
pairs_before zero xs = []
pairs_before (suc i) xs = pairs_before i xs ++ pairs_from i (length xs) xs

-- the entries of the pairs, whose brackets are all within the limits
pub record AreEntriesWithin (S : Space) (Vs : List VectorField) (pairs : List (VectorField × VectorField))
    (es : List (List Ratio)) : Type 0 where
  pub entries : AreEntries S Vs pairs es
  pub within : Every (λ (pair : VectorField × VectorField). IsWorkWithin (BracketMakes S pair.0 pair.1)) pairs
