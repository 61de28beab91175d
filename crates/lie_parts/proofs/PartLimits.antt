-- The parts of a form within the limits are within the limits, with absolute values too: no two of their triples have the same derivative and monomial.
use Rattle.std.specs.Prelude.{◌≡◌, ℕ, ◌≤◌, Bool, true, false, cond, not, T, List, [], ◌∷◌, ◌++◌, length, pos, ℤ, unsigned_abs}
use Rattle.std.proofs.Common.{refl, sym, ap, ap₂, subst, ◌∙◌, arith, is_lt}
use Rattle.std.proofs.lemmas.List.Elements.{All-from_recursion, recursion_from_All}
use Rattle.std.specs.List.{AllByRecursion as Every, All}
use Rattle.std.specs.Ordering.{eq_by_cmp}
use Rattle.lie_math.specs.SortedSum.{below_all}
use Rattle.lie_math.specs.Canonical.{both, first, second}
use Rattle.lie_math.specs.FiniteSum as finite
use Rattle.lie_math.specs.FiniteSum.{IsCanonical}
use Rattle.lie_math.specs.Integer.{coefficients}
use Rattle.lie_math.specs.Counts.{Derivative, derivative_cmp, order}
use Rattle.lie_math.specs.LinearForm.{forms, LinearForm}
use Rattle.lie_math.specs.Limits.{FitsNumber, HasLowExponents, absolutes}
use Rattle.lie_math.specs.Monomial.{Monomial, monomial_cmp, exponent, ◌·◌}
use Rattle.lie_math.specs.MonomialOrder.{·_comm}
use Rattle.lie_math.specs.Polynomial.{WholePolynomial, terms}
use Rattle.lie_math.proofs.CanonicalLists.{canonical_value, canonical_below, canonical_tail, canonical_cons}
use Rattle.lie_math.proofs.FiniteSum.{key}
use Rattle.lie_math.proofs.Limits.{canonical_absolutes}
use Rattle.lie_math.proofs.PrintOrder.{monomial_cmp-·}
use Rattle.lie_geometry.specs.DeterminingEquations.{restrict}
use Rattle.lie_geometry.proofs.Parts.{exponent-restrict, restrict_join}
use Rattle.lie_systems.specs.Bulk.{absolute_triples, bulk, greatest_form_order, IsFormWithinLimits}
use Rattle.lie_systems.specs.Triples.{Triple, triples, triples_in, triples_with, sum_of_triples}
use Rattle.lie_systems.proofs.Triples.{sum_of_triples-triples}
use Rattle.lie_parts.specs.Parts.{triples_at, split_triples}

module _ (A : ℕ → Bool) (μ : Monomial) where
  abbrev outer : Monomial → Monomial
  outer m = restrict (λ v. not (A v)) m

  abbrev is_at : Monomial → Bool
  is_at m = eq_by_cmp monomial_cmp μ (outer m)

  -- the terms at μ, without μ
  abbrev picked : List (Monomial × ℤ) → List (Monomial × ℤ)
  picked [] = []
  picked (e ∷ es) = cond (is_at e.0) ((restrict A e.0, e.1) ∷ picked es) (picked es)

  -- they stand in the order of the terms
  same_order : (m n : Monomial) → is_at m ≡ true → is_at n ≡ true → monomial_cmp (restrict A m) (restrict A n) ≡ monomial_cmp m n
  same_order m n h k =
      sym (monomial_cmp-· μ (restrict A m) (restrict A n))
      ∙ ap₂ monomial_cmp (whole m h) (whole n k)
    where
      whole : (m : Monomial) → is_at m ≡ true → μ · restrict A m ≡ m
      whole m h = ap (λ k. k · restrict A m) (key terms μ (outer m) h) ∙ ·_comm (outer m) (restrict A m) ∙ restrict_join A m

  below_picked : (m : Monomial) (es : List (Monomial × ℤ)) → is_at m ≡ true → T (below_all monomial_cmp coefficients m es) → T (below_all monomial_cmp coefficients (restrict A m) (picked es))
  below_picked m [] h b = tt
  below_picked m (e ∷ es) h b = go (is_at e.0) refl (below_picked m es h (second (is_lt (monomial_cmp m e.0)) (below_all monomial_cmp coefficients m es) b))
    where
      go : (t : Bool) → is_at e.0 ≡ t → T (below_all monomial_cmp coefficients (restrict A m) (picked es)) → T (below_all monomial_cmp coefficients (restrict A m) (cond t ((restrict A e.0, e.1) ∷ picked es) (picked es)))
      go true k i =
          both (is_lt (monomial_cmp (restrict A m) (restrict A e.0))) (below_all monomial_cmp coefficients (restrict A m) (picked es))
          (subst (λ r. T (is_lt r)) (sym (same_order m e.0 h k)) (first (is_lt (monomial_cmp m e.0)) (below_all monomial_cmp coefficients m es) b)) i
      go false k i = i

  canonical_picked : (es : List (Monomial × ℤ)) → IsCanonical terms es → IsCanonical terms (picked es)
  canonical_picked [] c = tt
  canonical_picked (e ∷ es) c = go (is_at e.0) refl (canonical_picked es (canonical_tail terms e es c))
    where
      go : (t : Bool) → is_at e.0 ≡ t → IsCanonical terms (picked es) → IsCanonical terms (cond t ((restrict A e.0, e.1) ∷ picked es) (picked es))
      go true k i = canonical_cons terms (restrict A e.0, e.1) (picked es) (canonical_value terms e es c) (below_picked e.0 es k (canonical_below terms e es c)) i
      go false k i = i

  -- the polynomial of them, with absolute values
  abbrev picked_sizes : WholePolynomial → WholePolynomial
  picked_sizes p = record { list = absolutes (picked p.list); canonical = canonical_absolutes (picked p.list) (canonical_picked p.list p.canonical) }

  abbrev kept_sizes : List (Derivative × WholePolynomial) → List (Derivative × WholePolynomial)
  kept_sizes [] = []
  kept_sizes (e ∷ es) = cond (finite.list_is_empty (absolutes (picked e.1.list))) (kept_sizes es) ((e.0, picked_sizes e.1) ∷ kept_sizes es)

  below_sizes : (d : Derivative) (es : List (Derivative × WholePolynomial)) → T (below_all derivative_cmp forms.values d es) → T (below_all derivative_cmp forms.values d (kept_sizes es))
  below_sizes d [] b = tt
  below_sizes d (e ∷ es) b = go (finite.list_is_empty (absolutes (picked e.1.list))) (below_sizes d es (second (is_lt (derivative_cmp d e.0)) (below_all derivative_cmp forms.values d es) b))
    where
      go : (t : Bool) → T (below_all derivative_cmp forms.values d (kept_sizes es)) → T (below_all derivative_cmp forms.values d (cond t (kept_sizes es) ((e.0, picked_sizes e.1) ∷ kept_sizes es)))
      go true i = i
      go false i = both (is_lt (derivative_cmp d e.0)) (below_all derivative_cmp forms.values d (kept_sizes es)) (first (is_lt (derivative_cmp d e.0)) (below_all derivative_cmp forms.values d es) b) i

  canonical_sizes : (es : List (Derivative × WholePolynomial)) → IsCanonical forms es → IsCanonical forms (kept_sizes es)
  canonical_sizes [] c = tt
  canonical_sizes (e ∷ es) c = go (finite.list_is_empty (absolutes (picked e.1.list))) refl (canonical_sizes es (canonical_tail forms e es c))
    where
      go : (t : Bool) → finite.list_is_empty (absolutes (picked e.1.list)) ≡ t → IsCanonical forms (kept_sizes es) → IsCanonical forms (cond t (kept_sizes es) ((e.0, picked_sizes e.1) ∷ kept_sizes es))
      go true k i = i
      go false k i = canonical_cons forms (e.0, picked_sizes e.1) (kept_sizes es) (subst (λ t. T (not t)) (sym k) tt) (below_sizes e.0 es (canonical_below forms e es c)) i

  -- ---- their triples are those at μ, with absolute values
  at-append : (ts us : List Triple) → absolute_triples (triples_at μ (split_triples A (ts ++ us))) ≡ absolute_triples (triples_at μ (split_triples A ts)) ++ absolute_triples (triples_at μ (split_triples A us))
  at-append [] us = refl
  at-append (t ∷ ts) us = go (is_at t.1) (at-append ts us)
    where
      go : (b : Bool) → absolute_triples (triples_at μ (split_triples A (ts ++ us))) ≡ absolute_triples (triples_at μ (split_triples A ts)) ++ absolute_triples (triples_at μ (split_triples A us))
          → absolute_triples (cond b ((t.0, restrict A t.1, t.2) ∷ triples_at μ (split_triples A (ts ++ us))) (triples_at μ (split_triples A (ts ++ us))))
          ≡ absolute_triples (cond b ((t.0, restrict A t.1, t.2) ∷ triples_at μ (split_triples A ts)) (triples_at μ (split_triples A ts))) ++ absolute_triples (triples_at μ (split_triples A us))
      go true i = ap (λ vs. (t.0, restrict A t.1, pos (unsigned_abs t.2)) ∷ vs) i
      go false i = i

  with_sizes : (d : Derivative) (es : List (Monomial × ℤ)) → triples_with d (absolutes (picked es)) ≡ absolute_triples (triples_at μ (split_triples A (triples_with d es)))
  with_sizes d [] = refl
  with_sizes d (e ∷ es) = go (is_at e.0) (with_sizes d es)
    where
      go : (b : Bool) → triples_with d (absolutes (picked es)) ≡ absolute_triples (triples_at μ (split_triples A (triples_with d es)))
          → triples_with d (absolutes (cond b ((restrict A e.0, e.1) ∷ picked es) (picked es))) ≡ absolute_triples (cond b ((d, restrict A e.0, e.1) ∷ triples_at μ (split_triples A (triples_with d es))) (triples_at μ (split_triples A (triples_with d es))))
      go true i = ap (λ vs. (d, restrict A e.0, pos (unsigned_abs e.1)) ∷ vs) i
      go false i = i

  in_sizes : (es : List (Derivative × WholePolynomial)) → triples_in (kept_sizes es) ≡ absolute_triples (triples_at μ (split_triples A (triples_in es)))
  in_sizes [] = refl
  in_sizes (e ∷ es) = go (absolutes (picked e.1.list)) refl ∙ ap₂ ◌++◌ (with_sizes e.0 e.1.list) (in_sizes es) ∙ sym (at-append (triples_with e.0 e.1.list) (triples_in es))
    where
      go : (xs : List (Monomial × ℤ)) → absolutes (picked e.1.list) ≡ xs → triples_in (cond (finite.list_is_empty (absolutes (picked e.1.list))) (kept_sizes es) ((e.0, picked_sizes e.1) ∷ kept_sizes es)) ≡ triples_with e.0 (absolutes (picked e.1.list)) ++ triples_in (kept_sizes es)
      go [] k = ap (λ ys. triples_in (cond (finite.list_is_empty ys) (kept_sizes es) ((e.0, picked_sizes e.1) ∷ kept_sizes es))) k ∙ ap (λ ys. triples_with e.0 ys ++ triples_in (kept_sizes es)) (sym k)
      go (x ∷ xs) k = ap (λ ys. triples_in (cond (finite.list_is_empty ys) (kept_sizes es) ((e.0, picked_sizes e.1) ∷ kept_sizes es))) k

  triples_of_bulk : (E : LinearForm) → triples (bulk (triples_at μ (split_triples A (triples E)))) ≡ absolute_triples (triples_at μ (split_triples A (triples E)))
  triples_of_bulk E =
      let F : LinearForm = record { list = kept_sizes E.list; canonical = canonical_sizes E.list E.canonical } in
      ap (λ ts. triples (sum_of_triples ts)) (sym (in_sizes E.list)) ∙ ap triples (sum_of_triples-triples F) ∙ in_sizes E.list

  -- ---- the limits
  lower : (m : Monomial) → HasLowExponents m → HasLowExponents (restrict A m)
  lower m h v = go (A v) (exponent-restrict A m v)
    where
      go : (b : Bool) → exponent (restrict A m) v ≡ cond b (exponent m v) 0 → exponent (restrict A m) v ≤ 65535
      go true e = let k = h v in omega arith
      go false e = omega arith

  numbers_at : (ts : List Triple) → Every (λ (t : Triple). FitsNumber t.2) ts → Every (λ (t : Triple). FitsNumber t.2) (absolute_triples (triples_at μ (split_triples A ts)))
  numbers_at [] h = tt
  numbers_at (t ∷ ts) h = go (is_at t.1) (numbers_at ts h.1)
    where
      go : (b : Bool) → Every (λ (t : Triple). FitsNumber t.2) (absolute_triples (triples_at μ (split_triples A ts)))
          → Every (λ (t : Triple). FitsNumber t.2) (absolute_triples (cond b ((t.0, restrict A t.1, t.2) ∷ triples_at μ (split_triples A ts)) (triples_at μ (split_triples A ts))))
      go true i = (h.0, i)
      go false i = i

  exponents_at : (ts : List Triple) → Every (λ (t : Triple). HasLowExponents t.1) ts → Every (λ (t : Triple). HasLowExponents t.1) (absolute_triples (triples_at μ (split_triples A ts)))
  exponents_at [] h = tt
  exponents_at (t ∷ ts) h = go (is_at t.1) (exponents_at ts h.1)
    where
      go : (b : Bool) → Every (λ (t : Triple). HasLowExponents t.1) (absolute_triples (triples_at μ (split_triples A ts)))
          → Every (λ (t : Triple). HasLowExponents t.1) (absolute_triples (cond b ((t.0, restrict A t.1, t.2) ∷ triples_at μ (split_triples A ts)) (triples_at μ (split_triples A ts))))
      go true i = (lower t.1 h.0, i)
      go false i = i

  orders_at : (ts : List Triple) → Every (λ (t : Triple). order t.0.counts ≤ greatest_form_order) ts → Every (λ (t : Triple). order t.0.counts ≤ greatest_form_order) (absolute_triples (triples_at μ (split_triples A ts)))
  orders_at [] h = tt
  orders_at (t ∷ ts) h = go (is_at t.1) (orders_at ts h.1)
    where
      go : (b : Bool) → Every (λ (t : Triple). order t.0.counts ≤ greatest_form_order) (absolute_triples (triples_at μ (split_triples A ts)))
          → Every (λ (t : Triple). order t.0.counts ≤ greatest_form_order) (absolute_triples (cond b ((t.0, restrict A t.1, t.2) ∷ triples_at μ (split_triples A ts)) (triples_at μ (split_triples A ts))))
      go true i = (h.0, i)
      go false i = i

  shorter : (ts : List Triple) → length (absolute_triples (triples_at μ (split_triples A ts))) ≤ length ts
  shorter [] = omega arith
  shorter (t ∷ ts) = go (is_at t.1) (shorter ts)
    where
      go : (b : Bool) → length (absolute_triples (triples_at μ (split_triples A ts))) ≤ length ts
          → length (absolute_triples (cond b ((t.0, restrict A t.1, t.2) ∷ triples_at μ (split_triples A ts)) (triples_at μ (split_triples A ts)))) ≤ length (t ∷ ts)
      go true i = omega arith
      go false i = omega arith

  pub part_within : (E : LinearForm) → IsFormWithinLimits E → IsFormWithinLimits (bulk (triples_at μ (split_triples A (triples E))))
  part_within E w = record {
    numbers = subst (All (λ (t : Triple). FitsNumber t.2)) (sym (triples_of_bulk E)) (All-from_recursion (λ (t : Triple). FitsNumber t.2) _ (numbers_at (triples E) (recursion_from_All (λ (t : Triple). FitsNumber t.2) (triples E) w.numbers)));
    exponents = subst (All (λ (t : Triple). HasLowExponents t.1)) (sym (triples_of_bulk E)) (All-from_recursion (λ (t : Triple). HasLowExponents t.1) _ (exponents_at (triples E) (recursion_from_All (λ (t : Triple). HasLowExponents t.1) (triples E) w.exponents)));
    orders = subst (All (λ (t : Triple). order t.0.counts ≤ greatest_form_order)) (sym (triples_of_bulk E)) (All-from_recursion (λ (t : Triple). order t.0.counts ≤ greatest_form_order) _ (orders_at (triples E) (recursion_from_All (λ (t : Triple). order t.0.counts ≤ greatest_form_order) (triples E) w.orders)));
    few = subst (λ ts. length ts ≤ 1000000) (sym (triples_of_bulk E)) (let s = shorter (triples E) in let f = w.few in omega arith);
  }
