-- Lists of terms within the limits, and lists that bound others.
use Rattle.std.specs.Prelude.{◌≡◌, ◌≤◌, List, [], ◌∷◌, ℤ, pos, unsigned_abs}
use Rattle.lie_math.specs.Monomial.{Monomial}
use Rattle.lie_math.specs.Limits.{FitsNumber, HasLowExponents}

-- each number fits and each exponent is low
abbrev pub AreWithin : List (Monomial × ℤ) → Type 0
AreWithin [] = Unit {0}
AreWithin (e ∷ es) = FitsNumber e.1 × HasLowExponents e.0 × AreWithin es

-- the second list has the same monomials, with numbers that are at least the absolute values
abbrev pub IsBulkOf : List (Monomial × ℤ) → List (Monomial × ℤ) → Type 0
IsBulkOf [] [] = Unit {0}
IsBulkOf [] (y ∷ ys) = ⊥
IsBulkOf (x ∷ xs) [] = ⊥
IsBulkOf (x ∷ xs) (y ∷ ys) = (x.0 ≡ y.0) × (unsigned_abs x.1 ≤ unsigned_abs y.1) × (y.1 ≡ pos (unsigned_abs y.1)) × IsBulkOf xs ys
