-- Fields made of rows: the numbers of a row stand in some columns.
use Rattle.std.specs.Prelude.{◌≡◌, ℕ, ◌<◌, ◌≤◌, cond, eqb, List, [], ◌∷◌, map, ℤ, pos}
use Rattle.std.specs.List.{AllByRecursion as Every, range_with_len}
use Rattle.lie_math.specs.Monomial.{Monomial, exponent}
use Rattle.lie_math.specs.Polynomial.{polynomial_of}
use Rattle.lie_math.specs.VectorField.{VectorField}
use Rattle.lie_spans.specs.Spans.{EveryTwo}
use Rattle.lie_spans.specs.Rows.{Row}
use Rattle.lie_spans.specs.Fields.{Column, column_before, field_entry}

-- columns in their order, of n components and in the variables below n
pub record AreColumns (n : ℕ) (ks : List Column) : Type 0 where
  pub rising : EveryTwo column_before ks
  pub components : Every (λ k. k.0 < n) ks
  pub own : Every (λ k. (v : ℕ) → n ≤ v → exponent k.1 v ≡ 0) ks

-- the terms of a row in the component s
abbrev pub row_terms : ℕ → List Column → Row → List (Monomial × ℤ)
row_terms s [] r = []
row_terms s (k ∷ ks) [] = []
row_terms s (k ∷ ks) (x ∷ r) = cond (eqb k.0 s) ((k.1, x) ∷ row_terms s ks r) (row_terms s ks r)

-- the field with n components that has the numbers of the row in these columns
abbrev pub field_of_row : ℕ → List Column → Row → VectorField
field_of_row n ks r = record { denominator = 1; parts = map (λ s. polynomial_of (row_terms s ks r)) (range_with_len 0 n) }

-- the numbers of a field in these columns
abbrev pub row_of_field : List Column → VectorField → Row
row_of_field ks W = map (field_entry W) ks

-- the field is 0 in all other columns
abbrev pub IsWithinColumns : List Column → VectorField → Type 0
IsWithinColumns ks W = (k : Column) → Every (λ c. ¬ (c ≡ k)) ks → field_entry W k ≡ pos 0
