-- The triples of a form by their factors in some variables, and buckets of them in order.
use Rattle.std.specs.Prelude.{◌≡◌, ℕ, ◌<◌, Bool, false, not, cond, List, [], ◌∷◌, ◌++◌, map, length, get_or, slice_index_or}
use Rattle.std.proofs.Common.{Ordering, Greater}
use Rattle.std.specs.List.Sorted.{IsStrictlySortedBy}
use Rattle.std.specs.Ordering.{eq_by_cmp}
use Rattle.lie_math.specs.Monomial.{Monomial, monomial_cmp}
use Rattle.lie_geometry.specs.DeterminingEquations.{restrict}
use Rattle.lie_systems.specs.Triples.{Triple}
use Rattle.lie_lin.specs.Forms.{triples_of}
use Rattle.lie_parts.specs.declared.buckets.Bucket.{Bucket}

-- ---- variables
-- the variables of which an array says that they stand inside; none past its end
abbrev pub is_inside : List Bool → ℕ → Bool
is_inside bs v = get_or bs v false

-- ---- triples by the monomials outside A
-- a triple whose factors outside A stand apart
abbrev pub split_triple : (ℕ → Bool) → Triple → Monomial × Triple
split_triple A t = (restrict (λ v. not (A v)) t.1, (t.0, restrict A t.1, t.2))

abbrev pub split_triples : (ℕ → Bool) → List Triple → List (Monomial × Triple)
split_triples A ts = map (split_triple A) ts

-- the triples at μ
abbrev pub triples_at : Monomial → List (Monomial × Triple) → List Triple
triples_at μ [] = []
triples_at μ (s ∷ ss) = cond (eq_by_cmp monomial_cmp μ s.0) (s.1 ∷ triples_at μ ss) (triples_at μ ss)

-- ---- buckets
abbrev pub monomials_of : List Bucket → List Monomial
monomials_of bs = map (λ b. b.mono) bs

-- the triples in the bucket of μ, none where there is no bucket
abbrev pub bucket_at : Monomial → List Bucket → List Triple
bucket_at μ [] = []
bucket_at μ (b ∷ bs) = cond (eq_by_cmp monomial_cmp μ b.mono) (triples_of b.triples.items) (bucket_at μ bs)

-- one bucket for each monomial, in print order, with the triples at it
pub record AreBucketsOf (ss : List (Monomial × Triple)) (bs : List Bucket) : Type 0 where
  pub ordered : IsStrictlySortedBy monomial_cmp (monomials_of bs)
  pub same : (μ : Monomial) → bucket_at μ bs ≡ triples_at μ ss

-- the buckets have more triples
pub record HaveMore (ss : List (Monomial × Triple)) (old new : List Bucket) : Type 0 where
  pub ordered : IsStrictlySortedBy monomial_cmp (monomials_of new)
  pub same : (μ : Monomial) → bucket_at μ new ≡ bucket_at μ old ++ triples_at μ ss

-- ---- places in a list in order
-- where x stands
pub record IsFound {X : Type 0} (R : X → X → Ordering) (x : X) (xs : List X) (i : ℕ) : Type 0 where
  pub within : i < length xs
  pub above : (k : ℕ) (d : X) → k < i → R x (slice_index_or xs k d) ≡ Greater
  pub here : (d : X) → x ≡ slice_index_or xs i d
