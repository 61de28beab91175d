-- Packed terms and sums, whose monomials are words, and the terms and tallies that they stand for.
use Rattle.std.specs.Prelude.{◌≡◌, ℕ, ◌+◌, ◌<◌, ◌≤◌, List, [], ◌∷◌, ◌++◌, ℤ}
use Rattle.lie_math.specs.Monomial.{Monomial}
use Rattle.lie_math.specs.Polynomial.{polynomial_of, ◌+ᴾ◌, ◌*ᴾ◌}
use Rattle.lie_math.specs.Limits.{absolutes}
use Rattle.lie_ring.specs.Entries.{entries}
use Rattle.lie_poly.specs.declared.packed.Packed.{Packed}
use Rattle.lie_poly.specs.declared.tally.Tally.{Tally}
use Rattle.lie_poly.specs.Sorted.{IsSorted}
use Rattle.lie_poly.specs.Tallies.{sums, sum_of, bulk_of, with_term, without_zeros, IsTallied, Tells}
use Rattle.lie_poly.specs.Words.{RiseFrom, IsWord}

-- variables that rise, and a base that is past the greatest degree
pub record IsFrame (base : ℕ) (vs : List ℕ) (most : ℕ) : Type 0 where
  pub rise : RiseFrom 0 vs
  pub past : most < base
  pub low : most ≤ 65535

module _ {C : Type 0} (value : C → ℤ) (base : ℕ) (vs : List ℕ) (most : ℕ) where
  -- words with numbers, and terms
  abbrev pub AreTerms : List (ℕ × C) → List (Monomial × C) → Type 0
  AreTerms [] [] = Unit {0}
  AreTerms [] (e ∷ es) = ⊥
  AreTerms (x ∷ xs) [] = ⊥
  AreTerms (x ∷ xs) (e ∷ es) = IsWord base vs most e.0 x.0 × (value x.1 ≡ value e.1) × AreTerms xs es

  -- packed sums, and tallies
  abbrev pub AreTallies : List (Packed C) → List (Tally C) → Type 0
  AreTallies [] [] = Unit {0}
  AreTallies [] (t ∷ ts) = ⊥
  AreTallies (x ∷ xs) [] = ⊥
  AreTallies (x ∷ xs) (t ∷ ts) = IsWord base vs most t.mono x.word × (value x.sum ≡ value t.sum) × (x.bulk ≡ t.bulk) × AreTallies xs ts

module _ {C : Type 0} (value : C → ℤ) where
  -- the sum of two lists of packed sums, whatever tallies they stand for
  abbrev pub IsMerged : List (Packed C) → List (Packed C) → List (Packed C) → Type 0
  IsMerged xs ys zs = (base : ℕ) (vs : List ℕ) (most : ℕ) (ls rs : List (Tally C))
      → IsFrame base vs most → AreTallies value base vs most xs ls → AreTallies value base vs most ys rs
      → IsTallied value ls → IsTallied value rs
      → (ts : List (Tally C)) × AreTallies value base vs most zs ts
      × Tells value ts (sum_of value ls +ᴾ sum_of value rs) (bulk_of ls +ᴾ bulk_of rs)

  -- the product of packed terms, the right ones in print order, whatever terms they stand for
  abbrev pub IsProduct : List (ℕ × C) → List (ℕ × C) → List (Packed C) → Type 0
  IsProduct xs ys zs = (base : ℕ) (vs : List ℕ) (p q : ℕ) (es fs : List (Monomial × C))
      → IsFrame base vs (p + q) → AreTerms value base vs p xs es → AreTerms value base vs q ys fs → IsSorted (entries value fs)
      → (ts : List (Tally C)) × AreTallies value base vs (p + q) zs ts
      × Tells value ts (polynomial_of (entries value es) *ᴾ polynomial_of (entries value fs))
      (polynomial_of (absolutes (entries value es)) *ᴾ polynomial_of (absolutes (entries value fs)))

  -- the terms of packed sums that are not 0, whatever tallies they stand for
  abbrev pub IsUnpacked : ℕ → List ℕ → ℕ → List (Packed C) → List (Monomial × C) → Type 0
  IsUnpacked base vs most xs es = (ts : List (Tally C)) → IsFrame base vs most → AreTallies value base vs most xs ts
      → entries value es ≡ without_zeros (sums value ts)

  -- the term of a packed sum behind others, unless it is 0, whatever tally it stands for
  abbrev pub IsTermOf : ℕ → List ℕ → ℕ → Packed C → List (Monomial × C) → List (Monomial × C) → Type 0
  IsTermOf base vs most x es fs = (t : Tally C) → IsFrame base vs most → IsWord base vs most t.mono x.word → value x.sum ≡ value t.sum
      → entries value fs ≡ entries value es ++ with_term t.mono (value t.sum) []
