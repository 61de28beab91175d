-- Fields over 1 whose parts are lists of terms.
use Rattle.std.specs.Prelude.{ℤ, List, map, Vec}
use Rattle.std.specs.List.{AllByRecursion as Every}
use Rattle.std.specs.declared.alloc.Global.{Global}
use Rattle.lie_math.specs.FiniteSum.{IsCanonical}
use Rattle.lie_math.specs.Monomial.{Monomial}
use Rattle.lie_math.specs.Polynomial.{terms}
use Rattle.lie_math.specs.VectorField.{VectorField}
use Rattle.lie_geometry.specs.Coordinates.{Space}
use Rattle.lie_geometry.specs.Invariance.{IsFieldOn}
use Rattle.lie_jet.specs.Listed.{sum_listed}

-- the terms of a part
abbrev pub Part : Type 0
Part = Vec (Monomial × ℤ) Global

-- the field whose parts are the sums of the terms
abbrev pub field_of_terms : List Part → VectorField
field_of_terms xs = record { denominator = 1; parts = map (λ (x : Part). sum_listed x.items) xs }

-- each list stands in print order, each monomial once, without a coefficient 0
abbrev pub AreInOrder : List Part → Type 0
AreInOrder xs = Every (λ (x : Part). IsCanonical terms x.items) xs

-- the terms of a field on the space
pub record AreTermsOn (S : Space) (xs : List Part) : Type 0 where
  pub field : IsFieldOn S (field_of_terms xs)
  pub ordered : AreInOrder xs
