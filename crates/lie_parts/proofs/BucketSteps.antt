-- A triple that is put into its bucket.
use Rattle.std.specs.Prelude.{◌≡◌, ℕ, zero, suc, ◌<◌, ◌≤◌, Bool, true, false, cond, List, [], ◌∷◌, ◌++◌, length, slice_index_or}
use Rattle.std.proofs.Common.{Less, Greater, refl, sym, ap, ap₂, subst, ◌∙◌, arith, append-nil, set, is_eq}
use Rattle.std.specs.List.{insert}
use Rattle.std.specs.List.Sorted.{IsStrictlySortedBy}
use Rattle.std.specs.Ordering.{eq_by_cmp}
use Rattle.std.specs.Cmp.{tied_itself}
use Rattle.lie_math.specs.Monomial.{Monomial, monomial_cmp}
use Rattle.lie_math.specs.MonomialOrder.{monomial_cmp_total}
use Rattle.lie_math.specs.Polynomial.{terms}
use Rattle.lie_math.proofs.FiniteSum.{key}
use Rattle.lie_systems.specs.Triples.{Triple}
use Rattle.lie_lin.specs.Forms.{triples_of}
use Rattle.lie_parts.specs.declared.buckets.Bucket.{Bucket}
use Rattle.lie_lin.specs.EquationLists.{IsInsertionPoint}
use Rattle.lie_parts.specs.Parts.{monomials_of, bucket_at, HaveMore, IsFound}
use Rattle.lie_lin.proofs.SortedPlaces.{sorted_insert}

-- no bucket where the monomial comes before all
bucket_none : (μ : Monomial) (bs : List Bucket) → ((k : ℕ) (d : Monomial) → 0 ≤ k → k < length (monomials_of bs) → monomial_cmp μ (slice_index_or (monomials_of bs) k d) ≡ Less) → bucket_at μ bs ≡ []
bucket_none μ [] h = refl
bucket_none μ (b ∷ bs) h = ap (λ r. cond (is_eq r) (triples_of b.triples.items) (bucket_at μ bs)) (h 0 μ (omega arith) (omega arith)) ∙ bucket_none μ bs (λ k d z g. h (suc k) d (omega arith) (next k g))
  where
    next : (k : ℕ) → k < length (monomials_of bs) → suc k < length (monomials_of (b ∷ bs))
    next k g = omega arith

-- what is put at μ is not put at another monomial
module _ (μ : Monomial) (t : Triple) where
  abbrev At : Monomial → List Triple
  At ν = cond (eq_by_cmp monomial_cmp ν μ) (t ∷ []) []

  -- before the place the buckets stay
  earlier : (ν : Monomial) (b : Bucket) (old new : List Triple) → monomial_cmp μ b.mono ≡ Greater → new ≡ old ++ At ν
      → cond (eq_by_cmp monomial_cmp ν b.mono) (triples_of b.triples.items) new ≡ cond (eq_by_cmp monomial_cmp ν b.mono) (triples_of b.triples.items) old ++ At ν
  earlier ν b old new g h = go (eq_by_cmp monomial_cmp ν b.mono) refl (eq_by_cmp monomial_cmp ν μ) refl
    where
      apart : ν ≡ b.mono → ν ≡ μ → ⊥
      apart e f = let q : monomial_cmp μ μ ≡ Greater = subst (λ m. monomial_cmp μ m ≡ Greater) (sym e ∙ f) g in let r = tied_itself monomial_cmp_total μ in cc

      go : (s : Bool) → eq_by_cmp monomial_cmp ν b.mono ≡ s → (r : Bool) → eq_by_cmp monomial_cmp ν μ ≡ r → cond s (triples_of b.triples.items) new ≡ cond s (triples_of b.triples.items) old ++ At ν
      go true e true f = absurd (apart (key terms ν b.mono e) (key terms ν μ f))
      go true e false f = sym (ap (λ r. triples_of b.triples.items ++ cond r (t ∷ []) []) f ∙ append-nil (triples_of b.triples.items))
      go false e r f = h

  -- a new bucket
  bucket_inserted : (bs : List Bucket) (i : ℕ) (b : Bucket) → b.mono ≡ μ → triples_of b.triples.items ≡ t ∷ [] → i ≤ length (monomials_of bs) → ((k : ℕ) (d : Monomial) → k < i → monomial_cmp μ (slice_index_or (monomials_of bs) k d) ≡ Greater)
      → ((k : ℕ) (d : Monomial) → i ≤ k → k < length (monomials_of bs) → monomial_cmp μ (slice_index_or (monomials_of bs) k d) ≡ Less) → (ν : Monomial) → bucket_at ν (insert bs i b) ≡ bucket_at ν bs ++ At ν
  bucket_inserted bs zero b m u w above below ν = ap₂ (λ n us. cond (eq_by_cmp monomial_cmp ν n) us (bucket_at ν bs)) m u ∙ go (eq_by_cmp monomial_cmp ν μ) refl
    where
      go : (r : Bool) → eq_by_cmp monomial_cmp ν μ ≡ r → cond r (t ∷ []) (bucket_at ν bs) ≡ bucket_at ν bs ++ cond r (t ∷ []) []
      go true e = ap (λ us. us ++ t ∷ []) (sym (ap (λ n. bucket_at n bs) (key terms ν μ e) ∙ bucket_none μ bs below))
      go false e = sym (append-nil (bucket_at ν bs))
  bucket_inserted [] (suc i) b m u w above below ν = absurd (omega arith)
  bucket_inserted (c ∷ bs) (suc i) b m u w above below ν =
      earlier ν c (bucket_at ν bs) (bucket_at ν (insert bs i b)) (above zero μ (omega arith))
      (bucket_inserted bs i b m u (omega arith) (λ k d g. above (suc k) d (next k g)) (λ k d n g. below (suc k) d (later k n) (less k g)) ν)
    where
      next : (k : ℕ) → k < i → suc k < suc i
      next k g = omega arith

      later : (k : ℕ) → i ≤ k → suc i ≤ suc k
      later k g = omega arith

      less : (k : ℕ) → k < length (monomials_of bs) → suc k < length (monomials_of (c ∷ bs))
      less k g = omega arith

  -- a bucket with one more triple
  bucket_pushed : (bs : List Bucket) (i : ℕ) (b d : Bucket) → b.mono ≡ μ → triples_of b.triples.items ≡ triples_of (slice_index_or bs i d).triples.items ++ t ∷ [] → i < length (monomials_of bs) → ((e : Monomial) → μ ≡ slice_index_or (monomials_of bs) i e)
      → ((k : ℕ) (e : Monomial) → k < i → monomial_cmp μ (slice_index_or (monomials_of bs) k e) ≡ Greater) → (ν : Monomial) → bucket_at ν (set bs i b) ≡ bucket_at ν bs ++ At ν
  bucket_pushed [] i b d m u w here above ν = absurd (omega arith)
  bucket_pushed (c ∷ bs) zero b d m u w here above ν =
      ap₂ (λ n us. cond (eq_by_cmp monomial_cmp ν n) us (bucket_at ν bs)) m u ∙ go (eq_by_cmp monomial_cmp ν μ)
      ∙ ap (λ n. cond (eq_by_cmp monomial_cmp ν n) (triples_of c.triples.items) (bucket_at ν bs) ++ At ν) (here μ)
    where
      go : (r : Bool) → cond r (triples_of c.triples.items ++ t ∷ []) (bucket_at ν bs) ≡ cond r (triples_of c.triples.items) (bucket_at ν bs) ++ cond r (t ∷ []) []
      go true = refl
      go false = sym (append-nil (bucket_at ν bs))
  bucket_pushed (c ∷ bs) (suc i) b d m u w here above ν =
      earlier ν c (bucket_at ν bs) (bucket_at ν (set bs i b)) (above zero μ (omega arith)) (bucket_pushed bs i b d m u (omega arith) here (λ k e g. above (suc k) e (next k g)) ν)
    where
      next : (k : ℕ) → k < i → suc k < suc i
      next k g = omega arith

map-insert : (bs : List Bucket) (i : ℕ) (b : Bucket) → monomials_of (insert bs i b) ≡ insert (monomials_of bs) i b.mono
map-insert bs zero b = refl
map-insert [] (suc i) b = refl
map-insert (c ∷ bs) (suc i) b = ap (λ ms. c.mono ∷ ms) (map-insert bs i b)

map-set : (bs : List Bucket) (i : ℕ) (b d : Bucket) → b.mono ≡ (slice_index_or bs i d).mono → monomials_of (set bs i b) ≡ monomials_of bs
map-set [] i b d e = refl
map-set (c ∷ bs) zero b d e = ap (λ m. m ∷ monomials_of bs) e
map-set (c ∷ bs) (suc i) b d e = ap (λ ms. c.mono ∷ ms) (map-set bs i b d e)

pub more_inserted : (μ : Monomial) (t : Triple) (bs : List Bucket) (i : ℕ) (b : Bucket) → b.mono ≡ μ → triples_of b.triples.items ≡ t ∷ [] → IsStrictlySortedBy monomial_cmp (monomials_of bs) → IsInsertionPoint monomial_cmp μ (monomials_of bs) i → HaveMore ((μ, t) ∷ []) bs (insert bs i b)
more_inserted μ t bs i b m u s p = record {
  ordered = subst (IsStrictlySortedBy monomial_cmp) (sym (map-insert bs i b ∙ ap (insert (monomials_of bs) i) m)) (sorted_insert monomial_cmp monomial_cmp_total (monomials_of bs) μ i s p.within p.above p.below);
  same = bucket_inserted μ t bs i b m u p.within p.above p.below;
}

pub more_pushed : (μ : Monomial) (t : Triple) (bs : List Bucket) (i : ℕ) (b d : Bucket) → b.mono ≡ (slice_index_or bs i d).mono → triples_of b.triples.items ≡ triples_of (slice_index_or bs i d).triples.items ++ t ∷ [] → i < length bs → IsStrictlySortedBy monomial_cmp (monomials_of bs) → IsFound monomial_cmp μ (monomials_of bs) i
    → HaveMore ((μ, t) ∷ []) bs (set bs i b)
more_pushed μ t bs i b d m u g s f = record {
  ordered = subst (IsStrictlySortedBy monomial_cmp) (sym (map-set bs i b d m)) s;
  same = bucket_pushed μ t bs i b d (m ∙ at_place bs i g ∙ sym (f.here (d.mono))) u f.within f.here f.above;
}
  where
    at_place : (bs : List Bucket) (i : ℕ) → i < length bs → (slice_index_or bs i d).mono ≡ slice_index_or (monomials_of bs) i d.mono
    at_place [] i g = refl
    at_place (c ∷ bs) zero g = refl
    at_place (c ∷ bs) (suc i) g = at_place bs i (omega arith)
