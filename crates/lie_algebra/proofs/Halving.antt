-- What a search by halving finds in a list whose keys rise strictly: the element with the key, or where one with it would stand.
use Rattle.std.specs.Prelude.{◌≡◌, ℕ, zero, suc, ◌<◌, ◌≤◌, List, [], ◌∷◌, map, length, get_or, Result, Ok, Err, MatchResult}
use Rattle.std.proofs.Common.{Ordering, Less, Equal, Greater, refl, sym, ap, subst, ◌∙◌, arith}
use Rattle.std.proofs.lemmas.List.{get_or-map, length-map}
use Rattle.std.specs.Cmp.{IsTotalOrder}
use Rattle.std.specs.FinMap.{IsAntisymmetric}
use Rattle.std.specs.List.Sorted.{IsStrictlySortedBy, IsSearchInRange, IsBinarySearchResult, IsNonDecreasingBy}
use Rattle.std.specs.Ordering.{ordering_index, ordering_reverse}
use Rattle.lie_math.proofs.EveryElement.{every_picked}
use Rattle.lie_lin.specs.EquationLists.{IsInsertionPoint}

at_most_greater : (r : Ordering) → ordering_index r ≤ ordering_index Greater
at_most_greater Less = omega arith
at_most_greater Equal = omega arith
at_most_greater Greater = omega arith

module _ {X K : Type 0} (R : K → K → Ordering) (o : IsTotalOrder R) (same : IsAntisymmetric R) (key : X → K) (μ : K) where
  -- the element at the place has the key
  abbrev pub HasKeyAt : List X → ℕ → Type 0
  HasKeyAt xs i = (i < length xs) × ((d : X) → key (get_or xs i d) ≡ μ)

  turned : (x y : K) → R x y ≡ Less → R y x ≡ Greater
  turned x y e = o.antisymm y x ∙ ap ordering_reverse e

  turned_back : (x y : K) → R x y ≡ Greater → R y x ≡ Less
  turned_back x y e = o.antisymm y x ∙ ap ordering_reverse e

  rises : (x y : K) → R x y ≡ Less → ordering_index (R x μ) ≤ ordering_index (R y μ)
  rises x y l = go (R y μ) refl
    where
      first : R x μ ≡ Less → (r : Ordering) → ordering_index (R x μ) ≤ ordering_index r
      first e r = let n = ap ordering_index e in omega arith

      go : (r : Ordering) → R y μ ≡ r → ordering_index (R x μ) ≤ ordering_index r
      go Less e = first (o.trans x y μ l e) Less
      go Equal e = first (subst (λ z. R x z ≡ Less) (same y μ e) l) Equal
      go Greater e = at_most_greater (R x μ)

  lesser_behind : (xs : List X) (x : X) (j : ℕ) (d : X) → IsStrictlySortedBy R (map key (x ∷ xs)) → j < length xs
      → R (key x) (key (get_or xs j d)) ≡ Less
  unfolding IsStrictlySortedBy
  lesser_behind xs x j d s lt =
      subst (λ m. R (key x) m ≡ Less) (get_or-map key xs j d (key d) lt)
      (every_picked (λ m. R (key x) m ≡ Less) (map key xs) j (key d) (omega (arith, length-map xs key)) s.0).0

  comparisons_rise : (xs : List X) → IsStrictlySortedBy R (map key xs) → IsNonDecreasingBy (λ x. ordering_index (R (key x) μ)) xs
  unfolding IsStrictlySortedBy
  comparisons_rise [] s i j d le lt = absurd (omega arith)
  comparisons_rise (x ∷ xs) s zero zero d le lt = itself (ordering_index (R (key x) μ))
    where
      itself : (n : ℕ) → n ≤ n
      itself n = omega arith
  comparisons_rise (x ∷ xs) s zero (suc j) d le lt = rises (key x) (key (get_or xs j d)) (lesser_behind xs x j d s (omega arith))
  comparisons_rise (x ∷ xs) s (suc i) zero d le lt = absurd (omega arith)
  comparisons_rise (x ∷ xs) s (suc i) (suc j) d le lt = comparisons_rise xs s.1 i j d (omega arith) (omega arith)

  pub searched : (xs : List X) (r : Result ℕ ℕ) → IsStrictlySortedBy R (map key xs) → IsSearchInRange r (length xs)
      → IsBinarySearchResult (λ x. R (key x) μ) xs r → MatchResult r (HasKeyAt xs) (IsInsertionPoint R μ (map key xs))
  searched xs (Ok i) s lt at = (lt, λ d. same _ _ (at d))
  searched xs (Err i) s le parted = record {
    within = omega (arith, le, length-map xs key);
    above = λ k d lt. before xs k d (omega arith) (λ e. (parted (comparisons_rise xs s)).0 k e (omega arith) lt);
    below = λ k d from lt. behind xs k d (omega (arith, lt, length-map xs key)) (λ e l. (parted (comparisons_rise xs s)).1 k e from l);
  }
    where
      before : (xs : List X) (k : ℕ) (d : K) → k < length xs → ((e : X) → R (key (get_or xs k e)) μ ≡ Less)
          → R μ (get_or (map key xs) k d) ≡ Greater
      before [] k d lt h = absurd (omega arith)
      before (x ∷ xs) k d lt h =
          subst (λ m. R μ m ≡ Greater) (sym (get_or-map key (x ∷ xs) k x d lt)) (turned (key (get_or (x ∷ xs) k x)) μ (h x))

      behind : (xs : List X) (k : ℕ) (d : K) → k < length xs → ((e : X) → k < length xs → R (key (get_or xs k e)) μ ≡ Greater)
          → R μ (get_or (map key xs) k d) ≡ Less
      behind [] k d lt h = absurd (omega arith)
      behind (x ∷ xs) k d lt h =
          subst (λ m. R μ m ≡ Less) (sym (get_or-map key (x ∷ xs) k x d lt)) (turned_back (key (get_or (x ∷ xs) k x)) μ (h x lt))
