-- A finite sum of values at keys, as a value: a canonical list. A monomial, a polynomial and a linear form are such sums.
use Rattle.std.specs.Prelude.{Bool, true, false, not, T, List, [], ◌∷◌, ◌++◌, filter}
use Rattle.std.proofs.Common.{Ordering}
use Rattle.std.specs.Ordering.{eq_by_cmp}
use Rattle.std.specs.Cmp.{IsTotalOrder}
use Rattle.std.specs.FinMap.{IsAntisymmetric}
use Rattle.lie_math.specs.Monoid.{Adder, Values}
use Rattle.lie_math.specs.SortedSum.{is_canonical, normal, sum_of_entries, value_at}
use Rattle.lie_math.specs.Canonical.{canonical-normal}

-- what keys and values are: an order of the keys that is total and ties only equal ones, and values that can be added
pub record Shape (K A : Type 0) : Type 0 where
  pub order : K → K → Ordering
  pub total : IsTotalOrder order
  pub same : IsAntisymmetric order
  pub values : Values A

-- the keys rise, and no value is nil
abbrev pub IsCanonical : {K A : Type 0} → Shape K A → List (K × A) → Type 0
IsCanonical S es = T (is_canonical S.order S.values es)

pub record FiniteSum {K A : Type 0} (S : Shape K A) : Type 0 where
  pub list : List (K × A)
  pub canonical : IsCanonical S list

abbrev pub list_is_empty : {X : Type 0} → List X → Bool
list_is_empty [] = true
list_is_empty (x ∷ xs) = false

module _ {K A : Type 0} (S : Shape K A) where
  -- the sum of the terms of a list
  unfoldable pub of : List (K × A) → FiniteSum S
  of es = record { list = normal S.order S.values es; canonical = canonical-normal S.order S.values S.total S.same es }

  -- the value at a key, nil where there is none
  abbrev pub value : FiniteSum S → K → A
  value p q = value_at S.order S.values q p.list

  -- the sum of φ over the entries
  abbrev pub sum_over : {B : Type 0} → Adder B → (K → A → B) → FiniteSum S → B
  sum_over N φ p = sum_of_entries N φ p.list

  unfoldable pub none : FiniteSum S
  none = of []

  unfoldable pub term : K → A → FiniteSum S
  term k a = of ((k, a) ∷ [])

  unfoldable pub plus : FiniteSum S → FiniteSum S → FiniteSum S
  plus p q = of (p.list ++ q.list)

  abbrev pub is_none : FiniteSum S → Bool
  is_none p = list_is_empty p.list

  -- the value at k replaced by a
  unfoldable pub put : K → A → FiniteSum S → FiniteSum S
  put k a p = of ((k, a) ∷ filter (λ e. not (eq_by_cmp S.order k e.0)) p.list)
