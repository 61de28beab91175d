-- Lists of columns in their order.
use Rattle.std.specs.Prelude.{◌≡◌, ℕ, zero, suc, ◌<◌, ◌≤◌, ◌⊎◌, ◌↔◌, List, [], ◌∷◌, ◌++◌, map, length, ℤ, insert as insert_at, Result, Ok, Err, MatchResult}
use Rattle.std.proofs.Common.{refl, sym, ap, subst, ◌∙◌, append_assoc, arith, ⊎_elim, inl, inr, Ordering, Less}
use Rattle.std.proofs.lemmas.List.Elements.{Contains-append_left, Contains-append_right, Contains-append_cases}
use Rattle.std.specs.Cmp.{IsTotalOrder, tied_itself}
use Rattle.std.specs.FinMap.{IsAntisymmetric}
use Rattle.std.specs.List.{AllByRecursion as Every, Contains}
use Rattle.std.specs.List.Sorted.{IsStrictlySortedBy, IsSearchInRange, IsBinarySearchResult}
use Rattle.lie_math.specs.Limits.{HasLowExponents, IsWithinLimits}
use Rattle.lie_math.specs.Monomial.{Monomial}
use Rattle.lie_math.specs.Polynomial.{WholePolynomial, terms}
use Rattle.lie_math.proofs.ContainedElements.{contained_cons, contains_first, contains_later, contains_nothing}
use Rattle.lie_math.proofs.EveryElement.{every_contained}
use Rattle.lie_math.proofs.FiniteSum.{entries_of}
use Rattle.lie_math.proofs.SortedLists.{less_equal, not_both_less, insert}
use Rattle.lie_ring.specs.declared.failures.PastKind.TheVariants.{Coefficient, Exponent, Terms, Order, Unknowns, Width}
use Rattle.lie_ring.specs.declared.failures.PolyFail.{PolyFail}
use Rattle.lie_ring.specs.declared.failures.PolyFail.TheVariants.{Past, NoMemory}
use Rattle.lie_systems.specs.Works.{greatest_column_count}
use Rattle.lie_lin.specs.EquationLists.{IsInsertionPoint}
use Rattle.lie_lin.proofs.SortedPlaces.{sorted_insert, contained_insert, contains_insert, contains_inserted}
use Rattle.lie_spans.specs.Fields.{Column, column_cmp, column_before}
use Rattle.lie_spans.specs.Spans.{EveryTwo}
use Rattle.lie_spans.proofs.FieldBasis.{column_cmp_total, column_same}
use Rattle.lie_algebra.specs.ColumnLists.{term_columns, AreColumnsOf, IsColumnsCause}
use Rattle.lie_algebra.proofs.Halving.{HasKeyAt, searched}

-- ---- any lists in an order
module _ {K : Type 0} (R : K → K → Ordering) (o : IsTotalOrder R) (same : IsAntisymmetric R) where
  -- the elements of a list in order, each once
  pub ordered : (xs : List K) → (ys : List K) × IsStrictlySortedBy R ys × ((z : K) → Contains ys z ↔ Contains xs z)
  unfolding IsStrictlySortedBy
  ordered [] = ([], tt, λ z. (λ c. c, λ c. c))
  ordered (x ∷ xs) =
      let r = ordered xs in
      let i = insert R o same x r.0 (r.1) in
      (i.0, (i.1).sorted, λ z. (λ c. down r z (((i.1).elements z).0 c), λ c. ((i.1).elements z).1 (up r z (contained_cons x xs z c))))
    where
      down : (r : (ys : List K) × IsStrictlySortedBy R ys × ((z : K) → Contains ys z ↔ Contains xs z)) (z : K) → (x ≡ z) ⊎ Contains r.0 z → Contains (x ∷ xs) z
      down r z (inl e) = subst (Contains (x ∷ xs)) e (contains_first x xs)
      down r z (inr k) = contains_later x xs z ((r.2 z).0 k)

      up : (r : (ys : List K) × IsStrictlySortedBy R ys × ((z : K) → Contains ys z ↔ Contains xs z)) (z : K) → (x ≡ z) ⊎ Contains xs z → (x ≡ z) ⊎ Contains r.0 z
      up r z (inl e) = inl e
      up r z (inr k) = inr ((r.2 z).1 k)

  -- of two lists in order, one whose elements the other has is not longer
  pub not_longer : (xs ys : List K) → IsStrictlySortedBy R xs → IsStrictlySortedBy R ys → ((z : K) → Contains xs z → Contains ys z)
      → length xs ≤ length ys
  unfolding IsStrictlySortedBy
  not_longer [] ys h g f = omega arith
  not_longer (x ∷ xs) [] h g f = absurd (contains_nothing x (f x (contains_first x xs)))
  not_longer (x ∷ xs) (y ∷ ys) h g f =
      go (not_longer xs ys h.1 g.1) (not_longer (x ∷ xs) ys h g.1) (contained_cons y ys x (f x (contains_first x xs)))
    where
      go : (((z : K) → Contains xs z → Contains ys z) → length xs ≤ length ys)
          → (((z : K) → Contains (x ∷ xs) z → Contains ys z) → length (x ∷ xs) ≤ length ys)
          → (y ≡ x) ⊎ Contains ys x → length (x ∷ xs) ≤ length (y ∷ ys)
      go both past (inl e) = let r = both rest in omega arith
        where
          rest : (z : K) → Contains xs z → Contains ys z
          rest z c = at (contained_cons y ys z (f z (contains_later x xs z c)))
            where
              at : (y ≡ z) ⊎ Contains ys z → Contains ys z
              at (inl q) =
                  absurd (less_equal (every_contained (λ w. R x w ≡ Less) xs z h.0 c) (ap (R x) (sym q ∙ e) ∙ tied_itself o x))
              at (inr k) = k
      go both past (inr k) = let r = past rest in omega arith
        where
          later : R y x ≡ Less
          later = every_contained (λ w. R y w ≡ Less) ys x g.0 k

          rest : (z : K) → Contains (x ∷ xs) z → Contains ys z
          rest z c = at (contained_cons x xs z c) (contained_cons y ys z (f z c))
            where
              at : (x ≡ z) ⊎ Contains xs z → (y ≡ z) ⊎ Contains ys z → Contains ys z
              at q (inr m) = m
              at (inl q) (inl p) = absurd (less_equal later (ap (R y) (q ∙ sym p) ∙ tied_itself o y))
              at (inr m) (inl p) =
                  absurd (not_both_less R o same x y (every_contained (λ w. R x w ≡ Less) xs y h.0 (subst (Contains xs) (sym p) m)) later)

-- ---- the two ways to say that columns rise
pub rising_of_sorted : (ks : List Column) → IsStrictlySortedBy column_cmp ks → EveryTwo column_before ks
unfolding IsStrictlySortedBy
rising_of_sorted [] h = tt
rising_of_sorted (k ∷ ks) h = (h.0, rising_of_sorted ks h.1)

pub sorted_of_rising : (ks : List Column) → EveryTwo column_before ks → IsStrictlySortedBy column_cmp ks
unfolding IsStrictlySortedBy
sorted_of_rising [] h = tt
sorted_of_rising (k ∷ ks) h = (h.0, sorted_of_rising ks h.1)

-- ---- columns that are gathered
-- two lists with the same columns
abbrev pub IsSameColumns : List Column → List Column → Type 0
IsSameColumns xs ys = (k : Column) → Contains xs k ↔ Contains ys k

-- what is left to be gathered goes with those that are there
pub gather_step : (old piece rest all new : List Column) → AreColumnsOf (old ++ piece) new → IsSameColumns (old ++ (piece ++ rest)) all
    → IsSameColumns (new ++ rest) all
gather_step old piece rest all new h f k = (
  λ c. (f k).0 (⊎_elim
      (λ d. subst (λ xs. Contains xs k) (append_assoc old piece rest) (Contains-append_left (old ++ piece) rest k ((h.elements k).0 d)))
      (λ d. subst (λ xs. Contains xs k) (append_assoc old piece rest) (Contains-append_right (old ++ piece) rest k d))
      (Contains-append_cases new rest k c)),
  λ c. ⊎_elim
      (λ d. Contains-append_left new rest k ((h.elements k).1 d))
      (λ d. Contains-append_right new rest k d)
      (Contains-append_cases (old ++ piece) rest k (subst (λ xs. Contains xs k) (sym (append_assoc old piece rest)) ((f k).1 c))),
)

pub gather_end : (new rest all : List Column) → rest ≡ [] → IsStrictlySortedBy column_cmp new → IsSameColumns (new ++ rest) all → AreColumnsOf all new
gather_end new rest all e s f = record {
  sorted = s;
  elements = λ k. (
    λ c. (f k).0 (Contains-append_left new rest k c),
    λ c. ⊎_elim (λ d. d) (λ d. absurd (contains_nothing k (subst (λ xs. Contains xs k) e d))) (Contains-append_cases new rest k ((f k).1 c)),
  );
}

-- more columns are too many as well
pub cause_grows : (fail : PolyFail) (xs ys : List Column) → ((k : Column) → Contains xs k → Contains ys k) → IsColumnsCause fail xs → IsColumnsCause fail ys
cause_grows (Past Width) xs ys f (ks, h, l) =
    let r = ordered column_cmp column_cmp_total column_same ys in
    let m = not_longer column_cmp column_cmp_total column_same ks r.0 h.sorted r.1 (λ k c. (r.2 k).1 (f k ((h.elements k).0 c))) in
    (r.0, record { sorted = r.1; elements = r.2 }, omega (arith, l, m))
cause_grows (Past Coefficient) xs ys f h = h
cause_grows (Past Exponent) xs ys f h = h
cause_grows (Past Terms) xs ys f h = h
cause_grows (Past Order) xs ys f h = h
cause_grows (Past Unknowns) xs ys f h = h
cause_grows NoMemory xs ys f h = tt

pub gather_cause : (fail : PolyFail) (old piece rest all : List Column) → IsSameColumns (old ++ (piece ++ rest)) all
    → IsColumnsCause fail (old ++ piece) → IsColumnsCause fail all
gather_cause fail old piece rest all f h =
    cause_grows fail (old ++ piece) all
    (λ k c. (f k).0 (subst (λ xs. Contains xs k) (append_assoc old piece rest) (Contains-append_left (old ++ piece) rest k c))) h

pub gather_start : (xs ys : List Column) → xs ≡ ys → IsSameColumns xs ys
gather_start xs ys e k = (subst (λ zs. Contains zs k) e, subst (λ zs. Contains zs k) (sym e))

pub no_column_sorted : IsStrictlySortedBy column_cmp []
unfolding IsStrictlySortedBy
no_column_sorted = tt

pub no_columns : (s : ℕ) (es : List (Monomial × ℤ)) → length es ≡ 0 → term_columns s es ≡ []
no_columns s [] e = refl
no_columns s (x ∷ es) e = absurd (omega arith)

-- ---- one column more
pub columns_present : (xs : List Column) (x : Column) → IsStrictlySortedBy column_cmp xs → Contains xs x → AreColumnsOf (xs ++ x ∷ []) xs
columns_present xs x s c = record {
  sorted = s;
  elements = λ k. (
    λ d. Contains-append_left xs (x ∷ []) k d,
    λ d. ⊎_elim (λ e. e) (λ e. ⊎_elim (λ q. subst (Contains xs) q c) (λ q. absurd (contains_nothing k q)) (contained_cons x [] k e))
        (Contains-append_cases xs (x ∷ []) k d),
  );
}

pub columns_inserted : (xs : List Column) (x : Column) (i : ℕ) → IsStrictlySortedBy column_cmp xs → IsInsertionPoint column_cmp x xs i
    → AreColumnsOf (xs ++ x ∷ []) (insert_at xs i x)
columns_inserted xs x i s p = record {
  sorted = sorted_insert column_cmp column_cmp_total xs x i s p.within p.above p.below;
  elements = λ k. (
    λ d. ⊎_elim (λ e. subst (Contains (xs ++ x ∷ [])) e (Contains-append_right xs (x ∷ []) x (contains_first x [])))
        (λ e. Contains-append_left xs (x ∷ []) k e) (contained_insert xs i x k d),
    λ d. ⊎_elim (λ e. contains_insert xs i x k e)
        (λ e. ⊎_elim (λ q. subst (Contains (insert_at xs i x)) q (contains_inserted xs i x)) (λ q. absurd (contains_nothing k q)) (contained_cons x [] k e))
        (Contains-append_cases xs (x ∷ []) k d),
  );
}

length-insert : (xs : List Column) (i : ℕ) (x : Column) → i ≤ length xs → length (insert_at xs i x) ≡ suc (length xs)
length-insert xs zero x l = refl
length-insert [] (suc i) x l = absurd (omega arith)
length-insert (y ∷ xs) (suc i) x l = ap suc (length-insert xs i x (omega arith))

pub one_too_many : (xs : List Column) (x : Column) (i : ℕ) → IsStrictlySortedBy column_cmp xs → IsInsertionPoint column_cmp x xs i
    → greatest_column_count ≤ length xs → IsColumnsCause (Past Width) (xs ++ x ∷ [])
one_too_many xs x i s p l = (insert_at xs i x, columns_inserted xs x i s p, (let e = length-insert xs i x p.within in omega arith))

pub inserted_few : (xs : List Column) (x : Column) (i : ℕ) → IsInsertionPoint column_cmp x xs i → length xs < greatest_column_count
    → length (insert_at xs i x) ≤ greatest_column_count
inserted_few xs x i p l = let e = length-insert xs i x p.within in omega arith

-- ---- the place of a column
map_itself : (xs : List Column) → map (λ k. k) xs ≡ xs
map_itself [] = refl
map_itself (x ∷ xs) = ap (λ ys. x ∷ ys) (map_itself xs)

pub column_searched : (k : Column) (ks : List Column) (r : Result ℕ ℕ) → IsStrictlySortedBy column_cmp ks → IsSearchInRange r (length ks)
    → IsBinarySearchResult (λ j. column_cmp j k) ks r → MatchResult r (λ i. Contains ks k) (IsInsertionPoint column_cmp k ks)
column_searched k ks r s i b =
    told r (searched column_cmp column_cmp_total column_same (λ j. j) k ks r (subst (IsStrictlySortedBy column_cmp) (sym (map_itself ks)) s) i b)
  where
    told : (r : Result ℕ ℕ) → MatchResult r (HasKeyAt column_cmp column_cmp_total column_same (λ j. j) k ks) (IsInsertionPoint column_cmp k (map (λ j. j) ks))
        → MatchResult r (λ i. Contains ks k) (IsInsertionPoint column_cmp k ks)
    told (Ok i) h = (i, h.0, h.1 k)
    told (Err i) h = subst (λ xs. IsInsertionPoint column_cmp k xs i) (map_itself ks) h

-- what all terms of a polynomial within the limits have
pub terms_low : (p : WholePolynomial) → IsWithinLimits p → Every (λ (t : Monomial × ℤ). HasLowExponents t.0) p.list
terms_low p w = entries_of terms p (λ (t : Monomial × ℤ). HasLowExponents t.0) (λ t is apart. w.exponents t.0 (λ z. apart (sym is ∙ z)))
