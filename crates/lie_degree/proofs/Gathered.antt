-- The monomials at which something is said, gathered in print order, and the rows at them.
use Rattle.std.specs.Prelude.{◌≡◌, ℕ, ◌↔◌, List, [], ◌∷◌, ◌++◌, map, length, ℤ, pos, insert as insert_at, Result, Ok, Err, MatchResult}
use Rattle.std.proofs.Common.{refl, sym, ap, ap₂, subst, ◌∙◌, append_assoc, arith, ⊎_elim}
use Rattle.std.proofs.lemmas.List.Elements.{Contains-append_left, Contains-append_right, Contains-append_cases}
use Rattle.std.specs.List.{AllByRecursion as Every, Any, Contains}
use Rattle.std.specs.List.Sorted.{IsStrictlySortedBy, IsSearchInRange, IsBinarySearchResult}
use Rattle.lie_math.specs.FiniteSum.{IsCanonical}
use Rattle.lie_math.specs.FiniteSumLaws.{of_list}
use Rattle.lie_math.specs.LinearForm.{LinearForm}
use Rattle.lie_math.specs.Monomial.{Monomial, monomial_cmp}
use Rattle.lie_math.specs.MonomialOrder.{monomial_cmp_total, monomial_cmp-IsAntisymmetric}
use Rattle.lie_math.specs.Polynomial.{WholePolynomial, terms, coefficient, polynomial_of}
use Rattle.lie_math.proofs.CanonicalLists.{value_has}
use Rattle.lie_math.proofs.ContainedElements.{contained_cons, contains_first, contains_later, contains_nothing, contained_map}
use Rattle.lie_math.proofs.Decisions.{any_cases}
use Rattle.lie_math.proofs.EveryElement.{every-weaken, every_contained, every-map, every_mapped}
use Rattle.lie_math.proofs.FiniteSum.{entries_of}
use Rattle.lie_math.proofs.SomeElement.{any_head, any_tail}
use Rattle.lie_lin.specs.EquationLists.{IsInsertionPoint}
use Rattle.lie_lin.proofs.SortedPlaces.{sorted_insert, contained_insert, contains_insert, contains_inserted}
use Rattle.lie_algebra.proofs.Halving.{HasKeyAt, searched}
use Rattle.lie_spans.specs.Conditions.{condition_row}
use Rattle.lie_spans.specs.Fields.{Column}
use Rattle.lie_degree.specs.Conditions.{said_of, AreConditionMonomials}
use Rattle.lie_degree.specs.declared.equations.Said.{Said}
use Rattle.lie_degree.specs.Gathered.{AreGathered}
use Rattle.lie_degree.specs.Said.{said_lists, monomials_of, lists_monomials, said_monomials, row_said}

-- ---- monomials in print order
abbrev pub HaveSame : List Monomial → List Monomial → Type 0
HaveSame xs ys = (m : Monomial) → Contains xs m ↔ Contains ys m

pub same_start : (xs ys : List Monomial) → xs ≡ ys → HaveSame xs ys
same_start xs ys e m = (subst (λ zs. Contains zs m) e, subst (λ zs. Contains zs m) (sym e))

pub gather_next : (old piece rest all new : List Monomial) → AreGathered (old ++ piece) new → HaveSame (old ++ (piece ++ rest)) all
    → HaveSame (new ++ rest) all
gather_next old piece rest all new h f k = (
  λ c. (f k).0 (⊎_elim
      (λ d. subst (λ xs. Contains xs k) (append_assoc old piece rest) (Contains-append_left (old ++ piece) rest k ((h.elements k).0 d)))
      (λ d. subst (λ xs. Contains xs k) (append_assoc old piece rest) (Contains-append_right (old ++ piece) rest k d))
      (Contains-append_cases new rest k c)),
  λ c. ⊎_elim
      (λ d. Contains-append_left new rest k ((h.elements k).1 d))
      (λ d. Contains-append_right new rest k d)
      (Contains-append_cases (old ++ piece) rest k (subst (λ xs. Contains xs k) (sym (append_assoc old piece rest)) ((f k).1 c))),
)

pub gathered_all : (new rest all : List Monomial) → rest ≡ [] → IsStrictlySortedBy monomial_cmp new → HaveSame (new ++ rest) all
    → AreGathered all new
gathered_all new rest all e s f = record {
  sorted = s;
  elements = λ k. (
    λ c. (f k).0 (Contains-append_left new rest k c),
    λ c. ⊎_elim (λ d. d) (λ d. absurd (contains_nothing k (subst (λ xs. Contains xs k) e d)))
        (Contains-append_cases new rest k ((f k).1 c)),
  );
}

pub none_sorted : IsStrictlySortedBy monomial_cmp []
unfolding IsStrictlySortedBy
none_sorted = tt

pub monomial_present : (xs : List Monomial) (x : Monomial) → IsStrictlySortedBy monomial_cmp xs → Contains xs x → AreGathered
    (xs ++ x ∷ []) xs
monomial_present xs x s c = record {
  sorted = s;
  elements = λ k. (
    λ d. Contains-append_left xs (x ∷ []) k d,
    λ d. ⊎_elim (λ e. e) (λ e. ⊎_elim (λ q. subst (Contains xs) q c) (λ q. absurd (contains_nothing k q)) (contained_cons x [] k e))
        (Contains-append_cases xs (x ∷ []) k d),
  );
}

pub monomial_inserted : (xs : List Monomial) (x : Monomial) (i : ℕ) → IsStrictlySortedBy monomial_cmp xs
    → IsInsertionPoint monomial_cmp x xs i
    → AreGathered (xs ++ x ∷ []) (insert_at xs i x)
monomial_inserted xs x i s p = record {
  sorted = sorted_insert monomial_cmp monomial_cmp_total xs x i s p.within p.above p.below;
  elements = λ k. (
    λ d. ⊎_elim (λ e. subst (Contains (xs ++ x ∷ [])) e (Contains-append_right xs (x ∷ []) x (contains_first x [])))
        (λ e. Contains-append_left xs (x ∷ []) k e) (contained_insert xs i x k d),
    λ d. ⊎_elim (λ e. contains_insert xs i x k e)
        (λ e. ⊎_elim (λ q. subst (Contains (insert_at xs i x)) q (contains_inserted xs i x)) (λ q. absurd (contains_nothing k q))
        (contained_cons x [] k e))
        (Contains-append_cases xs (x ∷ []) k d),
  );
}

map_itself : (xs : List Monomial) → map (λ k. k) xs ≡ xs
map_itself [] = refl
map_itself (x ∷ xs) = ap (λ ys. x ∷ ys) (map_itself xs)

pub monomial_searched : (k : Monomial) (ks : List Monomial) (r : Result ℕ ℕ) → IsStrictlySortedBy monomial_cmp ks → IsSearchInRange r
    (length ks)
    → IsBinarySearchResult (λ j. monomial_cmp j k) ks r → MatchResult r (λ i. Contains ks k) (IsInsertionPoint monomial_cmp k ks)
monomial_searched k ks r s i b =
    told r (searched monomial_cmp monomial_cmp_total monomial_cmp-IsAntisymmetric (λ j. j) k ks r
    (subst (IsStrictlySortedBy monomial_cmp) (sym (map_itself ks)) s) i b)
  where
    told : (r : Result ℕ ℕ) → MatchResult r (HasKeyAt monomial_cmp monomial_cmp_total monomial_cmp-IsAntisymmetric (λ j. j) k ks)
        (IsInsertionPoint monomial_cmp k (map (λ j. j) ks))
        → MatchResult r (λ i. Contains ks k) (IsInsertionPoint monomial_cmp k ks)
    told (Ok i) h = (i, h.0, h.1 k)
    told (Err i) h = subst (λ xs. IsInsertionPoint monomial_cmp k xs i) (map_itself ks) h

-- ---- the monomials at which an equation says something of columns
-- a monomial is among those of a polynomial where its coefficient is not 0
keyed : (p : WholePolynomial) (m : Monomial) → Contains (monomials_of p.list) m ↔ ¬ (coefficient p m ≡ pos 0)
keyed p m = (
  λ c. let r = contained_map (λ (e : Monomial × ℤ). e.0) p.list m c in
      subst (λ x. ¬ (coefficient p x ≡ pos 0)) r.2
      (every_contained (λ (e : Monomial × ℤ). ¬ (coefficient p e.0 ≡ pos 0)) p.list r.0
      (entries_of terms p (λ (e : Monomial × ℤ). ¬ (coefficient p e.0 ≡ pos 0)) (λ e is apart z. apart (sym is ∙ z))) r.1),
  λ n. value_has terms (λ e. Contains (monomials_of p.list) e.0) m p.list p.canonical (each p.list) n,
)
  where
    each : (es : List (Monomial × ℤ)) → Every (λ (e : Monomial × ℤ). Contains (monomials_of es) e.0) es
    each [] = tt
    each (e ∷ es) = (
      contains_first e.0 (monomials_of es),
      every-weaken (λ (f : Monomial × ℤ). Contains (monomials_of es) f.0) (λ (f : Monomial × ℤ). Contains (monomials_of (e ∷ es)) f.0)
          (λ f c. contains_later e.0 (monomials_of es) f.0 c) es (each es),
    )

-- what is said of each column of a list
abbrev pub IsSaidOf : LinearForm → List Column → List Said → Type 0
IsSaidOf E ks ss = said_lists ss ≡ map (λ k. (said_of E k).list) ks

module _ (E : LinearForm) where
  abbrev OccursSaid : List Column → Monomial → Type 0
  OccursSaid ks m = Any (λ k. ¬ (coefficient (said_of E k) m ≡ pos 0)) ks

  lists_occur : (ks : List Column) (m : Monomial) → Contains (lists_monomials (map (λ k. (said_of E k).list) ks)) m ↔ OccursSaid ks m
  lists_occur [] m = (λ c. absurd (contains_nothing m c), λ a. absurd (omega (arith, a.2)))
  lists_occur (k ∷ ks) m = (
    λ c. ⊎_elim
        (λ d. any_head (λ k. ¬ (coefficient (said_of E k) m ≡ pos 0)) k ks ((keyed (said_of E k) m).0 d))
        (λ d. any_tail (λ k. ¬ (coefficient (said_of E k) m ≡ pos 0)) k ks ((lists_occur ks m).0 d))
        (Contains-append_cases (monomials_of (said_of E k).list) (lists_monomials (map (λ k. (said_of E k).list) ks)) m c),
    λ a. ⊎_elim
        (λ n. Contains-append_left (monomials_of (said_of E k).list) (lists_monomials (map (λ k. (said_of E k).list) ks)) m
        ((keyed (said_of E k) m).1 n))
        (λ b. Contains-append_right (monomials_of (said_of E k).list) (lists_monomials (map (λ k. (said_of E k).list) ks)) m
        ((lists_occur ks m).1 b))
        (any_cases (λ k. ¬ (coefficient (said_of E k) m ≡ pos 0)) k ks a),
  )

  module _ (ks : List Column) (ss : List Said) (h : IsSaidOf E ks ss) where
    pub condition_monomials : (ms : List Monomial) → AreGathered (said_monomials ss) ms → AreConditionMonomials ks E ms
    condition_monomials ms g = record {
      sorted = g.sorted;
      elements = λ m. (
        λ c. (lists_occur ks m).0 (subst (λ xs. Contains (lists_monomials xs) m) h ((g.elements m).0 c)),
        λ a. (g.elements m).1 (subst (λ xs. Contains (lists_monomials xs) m) (sym h) ((lists_occur ks m).1 a)),
      );
    }

    pub said_row : (m : Monomial) → row_said ss m ≡ condition_row ks E m
    said_row m = ap (map (λ (es : List (Monomial × ℤ)). coefficient (polynomial_of es) m)) h ∙ each ks
      where
        each : (ks : List Column) → map (λ (es : List (Monomial × ℤ)). coefficient (polynomial_of es) m)
            (map (λ k. (said_of E k).list) ks) ≡ condition_row ks E m
        each [] = refl
        each (k ∷ ks) = ap₂ (λ z r. z ∷ r) (ap (λ p. coefficient p m) (of_list terms (said_of E k))) (each ks)

    pub said_rows : (ms : List Monomial) → map (row_said ss) ms ≡ map (condition_row ks E) ms
    said_rows [] = refl
    said_rows (m ∷ ms) = ap₂ (λ r rs. r ∷ rs) (said_row m) (said_rows ms)

    pub said_canonical : Every (λ (s : Said). IsCanonical terms s.terms.items) ss
    said_canonical =
        every_mapped (IsCanonical terms) (λ (s : Said). s.terms.items) ss
        (subst (Every (IsCanonical terms)) (sym h) (every-map (IsCanonical terms) (λ k. (said_of E k).list) ks (each ks)))
      where
        each : (ks : List Column) → Every (λ k. IsCanonical terms (said_of E k).list) ks
        each [] = tt
        each (k ∷ ks) = ((said_of E k).canonical, each ks)
