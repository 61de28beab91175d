-- What a search by halving says of the place of a bucket.
use Rattle.std.specs.Prelude.{◌≡◌, ℕ, zero, suc, ◌<◌, ◌≤◌, List, [], ◌∷◌, length, get_or, Result, Ok, Err, MatchResult}
use Rattle.std.proofs.Common.{Ordering, Less, Equal, Greater, refl, sym, ap, subst, ◌∙◌, arith}
use Rattle.std.proofs.lemmas.List.{get_or-map, length-map}
use Rattle.std.specs.List.Sorted.{IsStrictlySortedBy, IsSearchInRange, IsBinarySearchResult, IsNonDecreasingBy}
use Rattle.std.specs.Ordering.{ordering_index, ordering_reverse}
use Rattle.lie_math.specs.Monomial.{Monomial, monomial_cmp}
use Rattle.lie_math.specs.MonomialOrder.{monomial_cmp_total, monomial_cmp-IsAntisymmetric}
use Rattle.lie_math.proofs.EveryElement.{every_picked}
use Rattle.lie_lin.specs.EquationLists.{IsInsertionPoint}
use Rattle.lie_parts.specs.declared.buckets.Bucket.{Bucket}
use Rattle.lie_parts.specs.Parts.{monomials_of, IsFound}

at_most_greater : (r : Ordering) → ordering_index r ≤ ordering_index Greater
at_most_greater Less = omega arith
at_most_greater Equal = omega arith
at_most_greater Greater = omega arith

turned : (x y : Monomial) → monomial_cmp x y ≡ Less → monomial_cmp y x ≡ Greater
turned x y e = monomial_cmp_total.antisymm y x ∙ ap ordering_reverse e

turned_back : (x y : Monomial) → monomial_cmp x y ≡ Greater → monomial_cmp y x ≡ Less
turned_back x y e = monomial_cmp_total.antisymm y x ∙ ap ordering_reverse e

module _ (μ : Monomial) where
  rises : (x y : Monomial) → monomial_cmp x y ≡ Less → ordering_index (monomial_cmp x μ) ≤ ordering_index (monomial_cmp y μ)
  rises x y l = go (monomial_cmp y μ) refl
    where
      first : monomial_cmp x μ ≡ Less → (r : Ordering) → ordering_index (monomial_cmp x μ) ≤ ordering_index r
      first e r = let n = ap ordering_index e in omega arith

      go : (r : Ordering) → monomial_cmp y μ ≡ r → ordering_index (monomial_cmp x μ) ≤ ordering_index r
      go Less e = first (monomial_cmp_total.trans x y μ l e) Less
      go Equal e = first (subst (λ z. monomial_cmp x z ≡ Less) (monomial_cmp-IsAntisymmetric y μ e) l) Equal
      go Greater e = at_most_greater (monomial_cmp x μ)

  lesser_behind : (bs : List Bucket) (b : Bucket) (j : ℕ) (d : Bucket) → IsStrictlySortedBy monomial_cmp (monomials_of (b ∷ bs)) → j < length bs
      → monomial_cmp b.mono (get_or bs j d).mono ≡ Less
  unfolding IsStrictlySortedBy
  lesser_behind bs b j d s lt =
      subst (λ m. monomial_cmp b.mono m ≡ Less) (get_or-map (λ (c : Bucket). c.mono) bs j d d.mono lt)
      (every_picked (λ m. monomial_cmp b.mono m ≡ Less) (monomials_of bs) j d.mono (omega (arith, length-map bs (λ (c : Bucket). c.mono))) s.0).0

  comparisons_rise : (bs : List Bucket) → IsStrictlySortedBy monomial_cmp (monomials_of bs)
      → IsNonDecreasingBy (λ (b : Bucket). ordering_index (monomial_cmp b.mono μ)) bs
  unfolding IsStrictlySortedBy
  comparisons_rise [] s i j d le lt = absurd (omega arith)
  comparisons_rise (b ∷ bs) s zero zero d le lt = same (ordering_index (monomial_cmp b.mono μ))
    where
      same : (n : ℕ) → n ≤ n
      same n = omega arith
  comparisons_rise (b ∷ bs) s zero (suc j) d le lt = rises b.mono (get_or bs j d).mono (lesser_behind bs b j d s (omega arith))
  comparisons_rise (b ∷ bs) s (suc i) zero d le lt = absurd (omega arith)
  comparisons_rise (b ∷ bs) s (suc i) (suc j) d le lt = comparisons_rise bs s.1 i j d (omega arith) (omega arith)

  -- the monomials before one are lesser
  lesser_before : (bs : List Bucket) (i : ℕ) (d : Bucket) → IsStrictlySortedBy monomial_cmp (monomials_of bs) → i < length bs
      → (get_or bs i d).mono ≡ μ → (k : ℕ) (e : Monomial) → k < i → monomial_cmp μ (get_or (monomials_of bs) k e) ≡ Greater
  unfolding IsStrictlySortedBy
  lesser_before [] i d s lt is k e l = absurd (omega arith)
  lesser_before (b ∷ bs) zero d s lt is k e l = absurd (omega arith)
  lesser_before (b ∷ bs) (suc i) d s lt is zero e l =
      turned b.mono μ (subst (λ m. monomial_cmp b.mono m ≡ Less) is (lesser_behind bs b i d s (omega arith)))
  lesser_before (b ∷ bs) (suc i) d s lt is (suc k) e l = lesser_before bs i d s.1 (omega arith) is k e (omega arith)

  pub searched : (bs : List Bucket) (r : Result ℕ ℕ) → IsStrictlySortedBy monomial_cmp (monomials_of bs) → IsSearchInRange r (length bs)
      → IsBinarySearchResult (λ (b : Bucket). monomial_cmp b.mono μ) bs r
      → MatchResult r (IsFound monomial_cmp μ (monomials_of bs)) (IsInsertionPoint monomial_cmp μ (monomials_of bs))
  searched [] (Ok i) s lt at = absurd (omega arith)
  searched (b ∷ bs) (Ok i) s lt at = record {
    within = omega (arith, lt, length-map (b ∷ bs) (λ (c : Bucket). c.mono));
    above = lesser_before (b ∷ bs) i b s lt (monomial_cmp-IsAntisymmetric _ _ (at b));
    here = λ d. sym (get_or-map (λ (c : Bucket). c.mono) (b ∷ bs) i b d lt ∙ monomial_cmp-IsAntisymmetric _ _ (at b));
  }
  searched bs (Err i) s le parted = record {
    within = omega (arith, le, length-map bs (λ (c : Bucket). c.mono));
    above = λ k d lt. before bs k d (omega arith) (λ e. (parted (comparisons_rise bs s)).0 k e (omega arith) lt);
    below = λ k d from lt. behind bs k d (omega (arith, lt, length-map bs (λ (c : Bucket). c.mono)))
        (λ e l. (parted (comparisons_rise bs s)).1 k e from l);
  }
    where
      before : (bs : List Bucket) (k : ℕ) (d : Monomial) → k < length bs → ((e : Bucket) → monomial_cmp (get_or bs k e).mono μ ≡ Less)
          → monomial_cmp μ (get_or (monomials_of bs) k d) ≡ Greater
      before [] k d lt h = absurd (omega arith)
      before (b ∷ bs) k d lt h =
          subst (λ m. monomial_cmp μ m ≡ Greater) (sym (get_or-map (λ (c : Bucket). c.mono) (b ∷ bs) k b d lt)) (turned (get_or (b ∷ bs) k b).mono μ (h b))

      behind : (bs : List Bucket) (k : ℕ) (d : Monomial) → k < length bs
          → ((e : Bucket) → k < length bs → monomial_cmp (get_or bs k e).mono μ ≡ Greater) → monomial_cmp μ (get_or (monomials_of bs) k d) ≡ Less
      behind [] k d lt h = absurd (omega arith)
      behind (b ∷ bs) k d lt h =
          subst (λ m. monomial_cmp μ m ≡ Less) (sym (get_or-map (λ (c : Bucket). c.mono) (b ∷ bs) k b d lt))
          (turned_back (get_or (b ∷ bs) k b).mono μ (h b lt))
