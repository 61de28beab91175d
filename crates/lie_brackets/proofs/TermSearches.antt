-- What a search by halving finds in a list of terms in order.
use Rattle.std.specs.Prelude.{◌≡◌, ℕ, zero, suc, ◌<◌, ◌≤◌, ◌⊎◌, List, [], ◌∷◌, length, get_or, ℤ, pos, T, Bool, true, false}
use Rattle.std.proofs.Common.{Ordering, Less, Equal, Greater, refl, sym, ap, subst, ◌∙◌, arith, is_lt, is_eq, inl, inr, true≢false}
use Rattle.std.proofs.lemmas.List.Elements.{recursion_from_All}
use Rattle.std.specs.Cmp.{tied_itself}
use Rattle.std.specs.List.{AllByRecursion as Every}
use Rattle.std.specs.List.Sorted.{IsNonDecreasingBy, IsPartitionPoint}
use Rattle.std.specs.Ordering.{ordering_index}
use Rattle.lie_math.specs.Canonical.{first, second}
use Rattle.lie_math.specs.FiniteSum.{IsCanonical}
use Rattle.lie_math.specs.Integer.{coefficients, is_zero_int, int_nil}
use Rattle.lie_math.specs.Monomial.{Monomial, monomial_cmp}
use Rattle.lie_math.specs.MonomialOrder.{monomial_cmp_total, monomial_cmp-IsAntisymmetric}
use Rattle.lie_math.specs.Polynomial.{terms, coefficient}
use Rattle.lie_math.specs.SortedSum.{below_all}
use Rattle.lie_math.proofs.CanonicalLists.{canonical_below, canonical_tail, value_has}
use Rattle.lie_math.proofs.Decisions.{at_most_or_greater}
use Rattle.lie_math.proofs.EveryElement.{every_at, every_picked}
use Rattle.lie_math.proofs.FiniteSum.{entries_of}
use Rattle.lie_math.proofs.Rising.{is_less}
use Rattle.lie_math.proofs.SortedLists.{less_equal}
use Rattle.lie_jet.specs.Listed.{sum_listed}
use Rattle.lie_brackets.proofs.FieldParts.{listed_list}

-- ---- the order of the list
every_below : (m : Monomial) (es : List (Monomial × ℤ)) → T (below_all monomial_cmp coefficients m es) → Every (λ (t : Monomial × ℤ). monomial_cmp m t.0 ≡ Less) es
every_below m [] h = tt
every_below m (e ∷ es) h = (is_less _ (first _ (below_all monomial_cmp coefficients m es) h), every_below m es (second (is_lt (monomial_cmp m e.0)) _ h))

pub later_terms : (xs : List (Monomial × ℤ)) (i j : ℕ) (d : Monomial × ℤ) → IsCanonical terms xs → i < j → j < length xs
    → monomial_cmp (get_or xs i d).0 (get_or xs j d).0 ≡ Less
later_terms [] i j d h l k = absurd (omega arith)
later_terms (x ∷ xs) i zero d h l k = absurd (omega arith)
later_terms (x ∷ xs) zero (suc j) d h l k =
    (every_picked (λ (t : Monomial × ℤ). monomial_cmp x.0 t.0 ≡ Less) xs j d (omega arith) (every_below x.0 xs (canonical_below terms x xs h))).0
later_terms (x ∷ xs) (suc i) (suc j) d h l k = later_terms xs i j d (canonical_tail terms x xs h) (omega arith) (omega arith)

-- ---- the coefficient of a term
pub coefficient_of_term : (xs : List (Monomial × ℤ)) (i : ℕ) (x : Monomial × ℤ) → IsCanonical terms xs → i < length xs → x ≡ get_or xs i x
    → coefficient (sum_listed xs) x.0 ≡ x.1
coefficient_of_term xs i x h l is =
    every_at (λ (t : Monomial × ℤ). coefficient (sum_listed xs) t.0 ≡ t.1) xs i x l is
    (subst (Every (λ (t : Monomial × ℤ). coefficient (sum_listed xs) t.0 ≡ t.1)) (sym (listed_list xs h))
    (entries_of terms (sum_listed xs) (λ (t : Monomial × ℤ). coefficient (sum_listed xs) t.0 ≡ t.1) (λ t is apart. is)))

module _ (μ : Monomial) where
  at_most_greater : (r : Ordering) → ordering_index r ≤ ordering_index Greater
  at_most_greater Less = omega arith
  at_most_greater Equal = omega arith
  at_most_greater Greater = omega arith

  not_falling : (x y : Monomial) → monomial_cmp x y ≡ Less → ordering_index (monomial_cmp x μ) ≤ ordering_index (monomial_cmp y μ)
  not_falling x y l = go (monomial_cmp y μ) refl
    where
      below : monomial_cmp x μ ≡ Less → (r : Ordering) → ordering_index (monomial_cmp x μ) ≤ ordering_index r
      below e r = let n = ap ordering_index e in omega arith

      go : (r : Ordering) → monomial_cmp y μ ≡ r → ordering_index (monomial_cmp x μ) ≤ ordering_index r
      go Less e = below (monomial_cmp_total.trans x y μ l e) Less
      go Equal e = below (subst (λ z. monomial_cmp x z ≡ Less) (monomial_cmp-IsAntisymmetric y μ e) l) Equal
      go Greater e = at_most_greater (monomial_cmp x μ)

  rising : (xs : List (Monomial × ℤ)) → IsCanonical terms xs → IsNonDecreasingBy (λ (t : Monomial × ℤ). ordering_index (monomial_cmp t.0 μ)) xs
  rising xs h i j d le lt = go (at_most_or_greater j i)
    where
      go : (j ≤ i) ⊎ (i < j) → ordering_index (monomial_cmp (get_or xs i d).0 μ) ≤ ordering_index (monomial_cmp (get_or xs j d).0 μ)
      go (inl k) = subst (λ n. ordering_index (monomial_cmp (get_or xs i d).0 μ) ≤ ordering_index (monomial_cmp (get_or xs n d).0 μ)) (let e : i ≡ j = omega arith in e) (let n : ordering_index (monomial_cmp (get_or xs i d).0 μ) ≤ ordering_index (monomial_cmp (get_or xs i d).0 μ) = omega arith in n)
      go (inr k) = not_falling (get_or xs i d).0 (get_or xs j d).0 (later_terms xs i j d h k lt)

  pub found : (xs : List (Monomial × ℤ)) (i : ℕ) (x : Monomial × ℤ) → IsCanonical terms xs → i < length xs → x ≡ get_or xs i x
      → monomial_cmp x.0 μ ≡ Equal → x.1 ≡ coefficient (sum_listed xs) μ
  found xs i x h l is e = sym (coefficient_of_term xs i x h l is) ∙ ap (coefficient (sum_listed xs)) (monomial_cmp-IsAntisymmetric x.0 μ e)

  -- a monomial that ties with no term has the coefficient 0
  pub missing : (xs : List (Monomial × ℤ)) → IsCanonical terms xs → Every (λ (t : Monomial × ℤ). ¬ (monomial_cmp t.0 μ ≡ Equal)) xs
      → pos 0 ≡ coefficient (sum_listed xs) μ
  missing xs h none = go (is_zero_int (coefficient (sum_listed xs) μ)) refl
    where
      go : (b : Bool) → is_zero_int (coefficient (sum_listed xs) μ) ≡ b → pos 0 ≡ coefficient (sum_listed xs) μ
      go true e = sym (int_nil _ e)
      go false e = absurd (value_has terms (λ (t : Monomial × ℤ). ¬ (monomial_cmp t.0 μ ≡ Equal)) μ (sum_listed xs).list (sum_listed xs).canonical
          (subst (Every (λ (t : Monomial × ℤ). ¬ (monomial_cmp t.0 μ ≡ Equal))) (listed_list xs h) none)
          (λ z. true≢false (ap is_zero_int (sym z) ∙ e)) (tied_itself monomial_cmp_total μ))

  pub none_ties : (xs : List (Monomial × ℤ)) (i : ℕ) → IsCanonical terms xs
      → (IsNonDecreasingBy (λ (t : Monomial × ℤ). ordering_index (monomial_cmp t.0 μ)) xs
      → IsPartitionPoint (λ (t : Monomial × ℤ). monomial_cmp t.0 μ ≡ Less) (λ (t : Monomial × ℤ). monomial_cmp t.0 μ ≡ Greater) xs i)
      → Every (λ (t : Monomial × ℤ). ¬ (monomial_cmp t.0 μ ≡ Equal)) xs
  none_ties xs i h parted = recursion_from_All _ xs (λ k d l e. go k d l e (at_most_or_greater i k))
    where
      go : (k : ℕ) (d : Monomial × ℤ) → k < length xs → monomial_cmp (get_or xs k d).0 μ ≡ Equal → (i ≤ k) ⊎ (k < i) → ⊥
      go k d l e (inl from) = true≢false (sym (ap is_eq e) ∙ ap is_eq ((parted (rising xs h)).1 k d from l))
      go k d l e (inr before) = less_equal ((parted (rising xs h)).0 k d (omega arith) before) e
