-- Names and their places, and the coordinates that they make.
use Rattle.std.specs.Prelude.{ℕ, ◌+◌, ◌-◌, ◌==◌, nat_lt, List, [], ◌∷◌, take, slice_index, slice_set, if◌then◌else◌, Some, None}
use Rattle.std.specs.declared.option.Option.{Option}
use Rattle.lie_geometry.specs.Coordinates.{Space, Coordinate, independent, jet}

-- the place of a letter among names, the first of which has the place k
abbrev pub place_from : ℕ → List ℕ → ℕ → Option ℕ
place_from k [] c = None
place_from k (n ∷ ns) c = if n == c then Some k else place_from (k + 1) ns c

abbrev pub place_of : List ℕ → ℕ → Option ℕ
place_of names c = place_from 0 names c

-- counts with one more at a place
abbrev pub one_more : List ℕ → Option ℕ → List ℕ
one_more J None = J
one_more J (Some i) = slice_set J i (slice_index J i + 1)

-- counts, and one more for each letter
abbrev pub counts_from : List ℕ → List ℕ → List ℕ → List ℕ
counts_from names J [] = J
counts_from names J (c ∷ cs) = counts_from names (one_more J (place_of names c)) cs

abbrev pub letter_counts : List ℕ → List ℕ → List ℕ
letter_counts names word = counts_from names (0 ∷ 0 ∷ 0 ∷ 0 ∷ []) word

-- the variable at a place among the names
abbrev pub variable_at : Space → ℕ → Coordinate
variable_at S i = if nat_lt i S.p then independent i else jet (i - S.p) (take S.p (0 ∷ 0 ∷ 0 ∷ 0 ∷ []))
