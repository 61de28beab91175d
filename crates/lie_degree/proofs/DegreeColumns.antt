-- The columns that are gathered are those up to the degree, and there is one list of these.
use Rattle.std.specs.Prelude.{◌≡◌, ℕ, zero, suc, ◌+◌, ◌<◌, ◌≤◌, ◌⊎◌, ◌↔◌, List, [], ◌∷◌, length}
use Rattle.std.proofs.Common.{refl, sym, ap, subst, ◌∙◌, arith, inl, inr, ⊎_elim, Ordering, Less, Equal, Greater}
use Rattle.std.proofs.lemmas.Bool.{cases_lt}
use Rattle.std.proofs.lemmas.List.Elements.{Contains-append_left, Contains-append_right}
use Rattle.std.specs.Cmp.{tied_itself}
use Rattle.std.specs.List.{AllByRecursion as Every, Contains}
use Rattle.std.specs.Ordering.{ordering_index}
use Rattle.lie_math.specs.Monomial.{Monomial, degree, exponent}
use Rattle.lie_math.proofs.ContainedElements.{contains_first, contains_later, contains-map}
use Rattle.lie_math.proofs.EveryElement.{every-append, every-map, every-weaken, every_contained, every_of_contained}
use Rattle.lie_math.proofs.SortedLists.{sorted_unique}
use Rattle.lie_systems.specs.Works.{ABasis, IsMadeWithin, IsWorkWithin, greatest_basis_unknown_count, greatest_column_count}
use Rattle.lie_algebra.specs.ColumnLists.{AreColumnsOf}
use Rattle.lie_algebra.proofs.ColumnLists.{rising_of_sorted, sorted_of_rising, ordered}
use Rattle.lie_spans.specs.Fields.{Column, column_cmp}
use Rattle.lie_spans.specs.Openings.{AreDegreeColumns}
use Rattle.lie_spans.proofs.FieldBasis.{column_cmp_total, column_same}
use Rattle.lie_degree.specs.Columns.{columns_in, columns_from, monomials_to}
use Rattle.lie_degree.specs.Works.{WidthMakes}
use Rattle.lie_degree.proofs.MonomialLists.{IsUpTo, monomials_low, monomials_all}

-- ---- the listed columns
-- the component is below n, and the monomial has n variables and a degree of at most d
pub record IsDegreeColumn (n d : ℕ) (k : Column) : Type 0 where
  pub component : k.0 < n
  pub monomial : IsUpTo d n k.1

columns_sound : (n d s c : ℕ) (ms : List Monomial) → s + c ≤ n → Every (IsUpTo d n) ms → Every (IsDegreeColumn n d) (columns_from s c ms)
columns_sound n d s zero ms l h = tt
columns_sound n d s (suc c) ms l h =
    every-append (IsDegreeColumn n d) (columns_in s ms) (columns_from (suc s) c ms)
    (every-map (IsDegreeColumn n d) (λ m. (s, m)) ms
    (every-weaken (IsUpTo d n) (λ m. IsDegreeColumn n d (s, m)) (λ m u. record { component = omega arith; monomial = u }) ms h))
    (columns_sound n d (suc s) c ms (omega arith) h)

columns_all : (s c t : ℕ) (m : Monomial) (ms : List Monomial) → s ≤ t → t < s + c → Contains ms m → Contains (columns_from s c ms) (t, m)
columns_all s zero t m ms l lt h = absurd (omega arith)
columns_all s (suc c) t m ms l lt h = ⊎_elim
    (λ more. Contains-append_right (columns_in s ms) (columns_from (suc s) c ms) (t, m) (columns_all (suc s) c t m ms more (omega arith) h))
    (λ same. Contains-append_left (columns_in s ms) (columns_from (suc s) c ms) (t, m)
    (subst (λ q. Contains (columns_in s ms) (q, m)) same (contains-map (λ x. (s, x)) ms m h)))
    (split s t l)
  where
    split : (s t : ℕ) → s ≤ t → (suc s ≤ t) ⊎ (s ≡ t)
    split s t l = ⊎_elim (λ a. inl a) (λ b. inr (omega arith)) (cases_lt s t)

-- a column is in a list, or it is none of it
found : (ks : List Column) (k : Column) → Contains ks k ⊎ Every (λ c. ¬ (c ≡ k)) ks
found [] k = inr tt
found (c ∷ ks) k = at (column_cmp c k) refl (found ks k)
  where
    other : (r : Ordering) → column_cmp c k ≡ r → ¬ (r ≡ Equal) → ¬ (c ≡ k)
    other r e n q = n (sym e ∙ ap (λ x. column_cmp x k) q ∙ tied_itself column_cmp_total k)

    apart : (r : Ordering) → column_cmp c k ≡ r → ¬ (r ≡ Equal) → Contains ks k ⊎ Every (λ c. ¬ (c ≡ k)) ks → Contains (c ∷ ks) k ⊎ Every
        (λ c. ¬ (c ≡ k)) (c ∷ ks)
    apart r e n (inl h) = inl (contains_later c ks k h)
    apart r e n (inr h) = inr (other r e n, h)

    at : (r : Ordering) → column_cmp c k ≡ r → Contains ks k ⊎ Every (λ c. ¬ (c ≡ k)) ks → Contains (c ∷ ks) k ⊎ Every (λ c. ¬ (c ≡ k))
        (c ∷ ks)
    at Equal e h = inl (subst (Contains (c ∷ ks)) (column_same c k e) (contains_first c ks))
    at Less e h = apart Less e (λ z. let n = ap ordering_index z in absurd (omega arith)) h
    at Greater e h = apart Greater e (λ z. let n = ap ordering_index z in absurd (omega arith)) h

none_contained : (ks : List Column) (k : Column) → Contains ks k → ¬ (Every (λ c. ¬ (c ≡ k)) ks)
none_contained ks k c h = every_contained (λ x. ¬ (x ≡ k)) ks k h c refl

-- ---- the columns up to a degree
module _ (n d : ℕ) where
  abbrev listed : List Column
  listed = columns_from 0 n (monomials_to n d)

  listed_is : (k : Column) → Contains listed k → IsDegreeColumn n d k
  listed_is k c = every_contained (IsDegreeColumn n d) listed k
      (columns_sound n d 0 n (monomials_to n d) (omega arith) (monomials_low d n)) c

  is_listed : (k : Column) → IsDegreeColumn n d k → Contains listed k
  is_listed k h = columns_all 0 n k.0 k.1 (monomials_to n d) (omega arith) (let l = h.component in omega arith)
      (monomials_all d n k.1 (h.monomial).low (h.monomial).own)

  pub are_degree_columns : (ks : List Column) → AreColumnsOf (columns_from 0 n (monomials_to n d)) ks → AreDegreeColumns n d ks
  are_degree_columns ks h = record {
    columns = record {
      rising = rising_of_sorted ks h.sorted;
      components = every_of_contained (λ k. k.0 < n) ks (λ k c. (listed_is k ((h.elements k).0 c)).component);
      own = every_of_contained (λ k. (v : ℕ) → n ≤ v → exponent k.1 v ≡ 0) ks (λ k c. ((listed_is k ((h.elements k).0 c)).monomial).own);
    };
    degrees = every_of_contained (λ k. degree k.1 ≤ d) ks (λ k c. ((listed_is k ((h.elements k).0 c)).monomial).low);
    all = λ k l own low. none_contained ks k
        ((h.elements k).1 (is_listed k (record { component = l; monomial = record { low = low; own = own } })));
  }

  degree_column : (ks : List Column) → AreDegreeColumns n d ks → (k : Column) → Contains ks k ↔ IsDegreeColumn n d k
  degree_column ks h k = (
    λ c. record {
      component = every_contained (λ k. k.0 < n) ks k h.columns.components c;
      monomial = record {
        low = every_contained (λ k. degree k.1 ≤ d) ks k h.degrees c;
        own = every_contained (λ k. (v : ℕ) → n ≤ v → exponent k.1 v ≡ 0) ks k h.columns.own c;
      };
    },
    λ i. ⊎_elim (λ c. c) (λ e. absurd (h.all k i.component (i.monomial).own (i.monomial).low e)) (found ks k),
  )

  -- there is one list
  pub same_columns : (js ks : List Column) → AreDegreeColumns n d js → AreDegreeColumns n d ks → js ≡ ks
  same_columns js ks h g =
      sorted_unique column_cmp column_cmp_total column_same js ks (sorted_of_rising js h.columns.rising)
      (sorted_of_rising ks g.columns.rising)
      (λ k. (λ c. (degree_column ks g k).1 ((degree_column js h k).0 c), λ c. (degree_column js h k).1 ((degree_column ks g k).0 c)))

  -- and there is one
  pub some_columns : (ks : List Column) × AreDegreeColumns n d ks
  some_columns = let r = ordered column_cmp column_cmp_total column_same listed in
      (r.0, are_degree_columns r.0 (record { sorted = r.1; elements = r.2 }))

  pub width_within : (ks : List Column) → AreDegreeColumns n d ks → n ≤ greatest_basis_unknown_count → length ks ≤ greatest_column_count
      → IsWorkWithin (WidthMakes n d)
  width_within ks h u c b (js, g, e) = subst IsMadeWithin (sym (e ∙ ap (λ ls. ABasis n (length ls)) (same_columns js ks g h))) (u, c)
