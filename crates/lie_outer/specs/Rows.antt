-- The rows that a keeper holds.
use Rattle.std.specs.Prelude.{ℕ, ◌≡◌, ◌≤◌, List, [], ◌∷◌, length, if◌then◌else◌, Option, Some, None, bytes_eq}
use Rattle.lie_outer.specs.declared.rows.Row.{Row}

-- a keeper holds no more rows
abbrev pub greatest_row_count : ℕ
greatest_row_count = 10000

abbrev pub name_of_row : Row → List ℕ
name_of_row row = row.name

-- the first row of the name
abbrev pub row_named : List Row → List ℕ → Option Row
row_named [] name = None
row_named (row ∷ rows) name = if bytes_eq row.name name then Some row else row_named rows name

-- the rows without the first of the name
abbrev pub rows_without : List Row → List ℕ → List Row
rows_without [] name = []
rows_without (row ∷ rows) name = if bytes_eq row.name name then rows else row ∷ rows_without rows name

-- no row has the name of one behind it
abbrev pub NamesDiffer : List Row → Type 0
NamesDiffer [] = Unit {0}
NamesDiffer (row ∷ rows) = (row_named rows row.name ≡ None) × NamesDiffer rows

-- what a keeper may hold
abbrev pub AreRows : List Row → Type 0
AreRows rows = NamesDiffer rows × (length rows ≤ greatest_row_count)
