-- The triples of a bucket sum to the part at its monomial, and are within the limits where the form is.
use Rattle.std.specs.Prelude.{◌≡◌, ℕ, zero, suc, ◌<◌, ◌⊎◌, Bool, true, false, cond, List, [], ◌∷◌, length, slice_index_or}
use Rattle.std.proofs.Common.{Less, refl, sym, ap, subst, ◌∙◌, arith, inl, inr, is_eq}
use Rattle.std.proofs.lemmas.List.{get_or-map, length-map}
use Rattle.std.specs.List.{AllByRecursion as Every, Any}
use Rattle.std.specs.List.Sorted.{IsStrictlySortedBy}
use Rattle.std.specs.Ordering.{eq_by_cmp}
use Rattle.std.specs.Cmp.{tied_itself}
use Rattle.lie_math.proofs.SomeElement.{any_tail}
use Rattle.lie_math.specs.LinearForm.{LinearForm, each_coefficient}
use Rattle.lie_math.specs.Monomial.{Monomial, monomial_cmp}
use Rattle.lie_math.specs.MonomialOrder.{monomial_cmp_total}
use Rattle.lie_geometry.specs.DeterminingEquations.{part}
use Rattle.lie_systems.specs.Bulk.{bulk, IsFormWithinLimits}
use Rattle.lie_systems.specs.Triples.{triples, sum_of_triples}
use Rattle.lie_lin.specs.Forms.{triples_of}
use Rattle.lie_parts.specs.declared.buckets.Bucket.{Bucket}
use Rattle.lie_parts.specs.Parts.{monomials_of, bucket_at, split_triples, AreBucketsOf}
use Rattle.lie_parts.proofs.PartForms.{sum_at}
use Rattle.lie_parts.proofs.PartLimits.{part_within}
use Rattle.lie_math.proofs.EveryElement.{every_of_contained, every_picked}
use Rattle.lie_lin.proofs.SortedPlaces.{turned_greater}

pub bucket_there : (bs : List Bucket) → IsStrictlySortedBy monomial_cmp (monomials_of bs) → (k : ℕ) (b : Bucket) → k < length bs → slice_index_or bs k b ≡ b → bucket_at b.mono bs ≡ triples_of b.triples.items
unfolding IsStrictlySortedBy
bucket_there [] s k b g e = absurd (omega arith)
bucket_there (c ∷ bs) s zero b g e =
    ap (λ (x : Bucket). cond (eq_by_cmp monomial_cmp b.mono x.mono) (triples_of x.triples.items) (bucket_at b.mono bs)) e
    ∙ ap (λ r. cond (is_eq r) (triples_of b.triples.items) (bucket_at b.mono bs)) (tied_itself monomial_cmp_total b.mono)
bucket_there (c ∷ bs) s (suc k) b g e =
    ap (λ r. cond (is_eq r) (triples_of c.triples.items) (bucket_at b.mono bs)) (turned_greater monomial_cmp monomial_cmp_total c.mono b.mono below) ∙ bucket_there bs s.1 k b (omega arith) e
  where
    n : length (monomials_of bs) ≡ length bs
    n = length-map bs (λ (b : Bucket). b.mono)

    lt : k < length bs
    lt = omega arith

    here : slice_index_or (monomials_of bs) k b.mono ≡ b.mono
    here = get_or-map (λ (b : Bucket). b.mono) bs k b b.mono lt ∙ ap (λ (b : Bucket). b.mono) e

    below : monomial_cmp c.mono b.mono ≡ Less
    below = subst (λ m. monomial_cmp c.mono m ≡ Less) here (every_picked (λ m. monomial_cmp c.mono m ≡ Less) (monomials_of bs) k b.mono (omega (arith, n, lt)) s.0).0

pub bucket_cases : (μ : Monomial) (bs : List Bucket) → (bucket_at μ bs ≡ []) ⊎ Any (λ (b : Bucket). triples_of b.triples.items ≡ bucket_at μ bs) bs
bucket_cases μ [] = inl refl
bucket_cases μ (b ∷ bs) = go (eq_by_cmp monomial_cmp μ b.mono) (bucket_cases μ bs)
  where
    go : (t : Bool) → (bucket_at μ bs ≡ []) ⊎ Any (λ (b : Bucket). triples_of b.triples.items ≡ bucket_at μ bs) bs
        → (cond t (triples_of b.triples.items) (bucket_at μ bs) ≡ []) ⊎ Any (λ (c : Bucket). triples_of c.triples.items ≡ cond t (triples_of b.triples.items) (bucket_at μ bs)) (b ∷ bs)
    go true s = inr (0, b, omega arith, refl, refl)
    go false s = elim s [ inl e ↦ inl e | inr a ↦ inr (any_tail (λ (c : Bucket). triples_of c.triples.items ≡ bucket_at μ bs) b bs a) ]

module _ (A : ℕ → Bool) (E : LinearForm) (bs : List Bucket) (are : AreBucketsOf (split_triples A (triples E)) bs) where
  pub sum_of_bucket : (μ : Monomial) → sum_of_triples (bucket_at μ bs) ≡ each_coefficient (part A μ) E
  sum_of_bucket μ = ap sum_of_triples (are.same μ) ∙ sum_at A μ E

  pub buckets_within : IsFormWithinLimits E → Every (λ (b : Bucket). IsFormWithinLimits (bulk (triples_of b.triples.items))) bs
  buckets_within w =
      every_of_contained (λ (b : Bucket). IsFormWithinLimits (bulk (triples_of b.triples.items))) bs
      (λ b c. subst (λ ts. IsFormWithinLimits (bulk ts)) (sym (are.same b.mono) ∙ bucket_there bs are.ordered c.0 b c.1 c.2) (part_within A b.mono E w))
