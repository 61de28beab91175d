-- Places in a list in strict order: how a search narrows them, what is put there and what is removed.
use Rattle.std.specs.Prelude.{◌≡◌, ℕ, zero, suc, ◌+◌, ◌<◌, ◌≤◌, ◌⊎◌, List, [], ◌∷◌, length, get_or, insert, remove}
use Rattle.std.proofs.Common.{Ordering, Less, Greater, refl, ap, subst, ◌∙◌, arith, inl, inr}
use Rattle.std.specs.List.{AllByRecursion as Every, Contains}
use Rattle.std.specs.List.Sorted.{IsStrictlySortedBy}
use Rattle.std.specs.Ordering.{ordering_reverse}
use Rattle.std.specs.Cmp.{IsTotalOrder}
use Rattle.lie_math.proofs.EveryElement.{every_picked}
use Rattle.lie_math.proofs.ContainedElements.{contained_cons, contains_first, contains_later, contains_nothing}

-- ---- elements
pub every_by_place : {X : Type 0} (P : X → Type 0) (xs : List X) → ((k : ℕ) (d : X) → k < length xs → P (get_or xs k d)) → Every P xs
every_by_place P [] h = tt
every_by_place P (x ∷ xs) h = (h zero x (omega arith), every_by_place P xs (λ k d g. h (suc k) d (next k g)))
  where
    next : (k : ℕ) → k < length xs → suc k < length (x ∷ xs)
    next k g = omega arith

pub every_insert : {X : Type 0} (P : X → Type 0) (xs : List X) (i : ℕ) (x : X) → Every P xs → P x → Every P (insert xs i x)
every_insert P xs zero x h p = (p, h)
every_insert P [] (suc i) x h p = (p, tt)
every_insert P (y ∷ xs) (suc i) x h p = (h.0, every_insert P xs i x h.1 p)

pub contained_insert : {X : Type 0} (xs : List X) (i : ℕ) (x z : X) → Contains (insert xs i x) z → (x ≡ z) ⊎ Contains xs z
contained_insert xs zero x z c = contained_cons x xs z c
contained_insert [] (suc i) x z c = contained_cons x [] z c
contained_insert (y ∷ xs) (suc i) x z c = elim (contained_cons y (insert xs i x) z c) [
  | inl e ↦ inr (subst (Contains (y ∷ xs)) e (contains_first y xs))
  | inr k ↦ elim (contained_insert xs i x z k) [ inl e ↦ inl e | inr d ↦ inr (contains_later y xs z d) ]
]

pub contains_inserted : {X : Type 0} (xs : List X) (i : ℕ) (x : X) → Contains (insert xs i x) x
contains_inserted xs zero x = contains_first x xs
contains_inserted [] (suc i) x = contains_first x []
contains_inserted (z ∷ xs) (suc i) x = contains_later z (insert xs i x) x (contains_inserted xs i x)

pub contains_insert : {X : Type 0} (xs : List X) (i : ℕ) (x z : X) → Contains xs z → Contains (insert xs i x) z
contains_insert xs zero x z c = contains_later x xs z c
contains_insert [] (suc i) x z c = absurd (contains_nothing z c)
contains_insert (y ∷ xs) (suc i) x z c = elim (contained_cons y xs z c) [
  | inl e ↦ subst (Contains (y ∷ insert xs i x)) e (contains_first y (insert xs i x))
  | inr d ↦ contains_later y (insert xs i x) z (contains_insert xs i x z d)
]

-- ---- what is removed
pub contained_remove : {X : Type 0} (xs : List X) (i : ℕ) (z : X) → Contains (remove xs i) z → Contains xs z
contained_remove [] zero z c = c
contained_remove [] (suc i) z c = c
contained_remove (x ∷ xs) zero z c = contains_later x xs z c
contained_remove (x ∷ xs) (suc i) z c = elim (contained_cons x (remove xs i) z c) [
  | inl e ↦ subst (Contains (x ∷ xs)) e (contains_first x xs)
  | inr d ↦ contains_later x xs z (contained_remove xs i z d)
]

-- another element than the one that is removed stays
pub contains_remove : {X : Type 0} (xs : List X) (i : ℕ) (d z : X) → i < length xs → ¬ (get_or xs i d ≡ z) → Contains xs z → Contains (remove xs i) z
contains_remove [] i d z lt n c = absurd (contains_nothing z c)
contains_remove (x ∷ xs) zero d z lt n c = elim (contained_cons x xs z c) [ inl e ↦ absurd (n e) | inr k ↦ k ]
contains_remove (x ∷ xs) (suc i) d z lt n c = elim (contained_cons x xs z c) [
  | inl e ↦ subst (Contains (x ∷ remove xs i)) e (contains_first x (remove xs i))
  | inr k ↦ contains_later x (remove xs i) z (contains_remove xs i d z (omega arith) n k)
]

pub contains_picked : {X : Type 0} (xs : List X) (i : ℕ) (d : X) → i < length xs → Contains xs (get_or xs i d)
contains_picked [] i d lt = absurd (omega arith)
contains_picked (x ∷ xs) zero d lt = contains_first x xs
contains_picked (x ∷ xs) (suc i) d lt = contains_later x xs (get_or xs i d) (contains_picked xs i d (omega arith))

pub picked_or_left : {X : Type 0} (xs : List X) (i : ℕ) (d z : X) → i < length xs → Contains xs z → (get_or xs i d ≡ z) ⊎ Contains (remove xs i) z
picked_or_left [] i d z lt c = absurd (omega arith)
picked_or_left (x ∷ xs) zero d z lt c = contained_cons x xs z c
picked_or_left (x ∷ xs) (suc i) d z lt c = elim (contained_cons x xs z c) [
  | inl e ↦ inr (subst (Contains (x ∷ remove xs i)) e (contains_first x (remove xs i)))
  | inr k ↦ elim (picked_or_left xs i d z (omega arith) k) [ inl e ↦ inl e | inr r ↦ inr (contains_later x (remove xs i) z r) ]
]

-- an element that is removed behind, or before, a place where another was put
pub remove_behind : {X : Type 0} (xs : List X) (g i : ℕ) (x : X) → g ≤ i → i < length xs → remove (insert xs g x) (suc i) ≡ insert (remove xs i) g x
remove_behind [] g i x le lt = absurd (omega arith)
remove_behind (y ∷ xs) zero i x le lt = refl
remove_behind (y ∷ xs) (suc g) zero x le lt = absurd (omega arith)
remove_behind (y ∷ xs) (suc g) (suc i) x le lt = ap (λ zs. y ∷ zs) (remove_behind xs g i x (omega arith) (omega arith))

pub remove_before : {X : Type 0} (xs : List X) (g i : ℕ) (x : X) → i ≤ g → i < length xs → remove (insert xs (suc g) x) i ≡ insert (remove xs i) g x
remove_before [] g i x le lt = absurd (omega arith)
remove_before (y ∷ xs) g zero x le lt = refl
remove_before (y ∷ xs) zero (suc i) x le lt = absurd (omega arith)
remove_before (y ∷ xs) (suc g) (suc i) x le lt = ap (λ zs. y ∷ zs) (remove_before xs g i x (omega arith) (omega arith))

-- ---- a search
module _ {X : Type 0} (R : X → X → Ordering) (total : IsTotalOrder R) where
  pub turned_less : (x y : X) → R x y ≡ Greater → R y x ≡ Less
  turned_less x y e = total.antisymm y x ∙ ap ordering_reverse e

  pub turned_greater : (x y : X) → R x y ≡ Less → R y x ≡ Greater
  turned_greater x y e = total.antisymm y x ∙ ap ordering_reverse e

  -- what is greater than one element is greater than those before it
  pub above_more : (xs : List X) (x : X) (middle : ℕ) (d : X) → IsStrictlySortedBy R xs → middle < length xs → R x (get_or xs middle d) ≡ Greater → (k : ℕ) (e : X) → k < middle + 1 → R x (get_or xs k e) ≡ Greater
  unfolding IsStrictlySortedBy
  above_more [] x middle d s g h k e l = absurd (omega arith)
  above_more (y ∷ ys) x zero d s g h zero e l = h
  above_more (y ∷ ys) x zero d s g h (suc k) e l = absurd (omega arith)
  above_more (y ∷ ys) x (suc middle) d s g h zero e l =
      turned_greater y x (total.trans y (get_or ys middle d) x (every_picked (λ z. R y z ≡ Less) ys middle d (omega arith) s.0).0 (turned_less x (get_or ys middle d) h))
  above_more (y ∷ ys) x (suc middle) d s g h (suc k) e l = above_more ys x middle d s.1 (omega arith) h k e (omega arith)

  -- what is less than one element is less than those behind it
  pub below_more : (xs : List X) (x : X) (middle : ℕ) (d : X) → IsStrictlySortedBy R xs → middle < length xs → R x (get_or xs middle d) ≡ Less → (k : ℕ) (e : X) → middle ≤ k → k < length xs → R x (get_or xs k e) ≡ Less
  unfolding IsStrictlySortedBy
  below_more [] x middle d s g h k e m l = absurd (omega arith)
  below_more (y ∷ ys) x zero d s g h zero e m l = h
  below_more (y ∷ ys) x zero d s g h (suc k) e m l = total.trans x y (get_or ys k e) h (every_picked (λ z. R y z ≡ Less) ys k e (omega arith) s.0).0
  below_more (y ∷ ys) x (suc middle) d s g h zero e m l = absurd (omega arith)
  below_more (y ∷ ys) x (suc middle) d s g h (suc k) e m l = below_more ys x middle d s.1 (omega arith) h k e (omega arith) (omega arith)

  -- what is put where it is greater than those before and less than those behind
  pub sorted_insert : (xs : List X) (x : X) (i : ℕ) → IsStrictlySortedBy R xs → i ≤ length xs → ((k : ℕ) (d : X) → k < i → R x (get_or xs k d) ≡ Greater) → ((k : ℕ) (d : X) → i ≤ k → k < length xs → R x (get_or xs k d) ≡ Less) → IsStrictlySortedBy R (insert xs i x)
  unfolding IsStrictlySortedBy
  sorted_insert xs x zero s w a b = (every_by_place (λ z. R x z ≡ Less) xs (λ k d g. b k d (none k) g), s)
    where
      none : (k : ℕ) → 0 ≤ k
      none k = omega arith
  sorted_insert [] x (suc i) s w a b = absurd (omega arith)
  sorted_insert (y ∷ ys) x (suc i) s w a b = (
    every_insert (λ z. R y z ≡ Less) ys i x s.0 (turned_less x y (a zero y (omega arith))),
    sorted_insert ys x i s.1 (omega arith) (λ k d g. a (suc k) d (next k g)) (λ k d m g. b (suc k) d (later k m) (less k g)),
  )
    where
      next : (k : ℕ) → k < i → suc k < suc i
      next k g = omega arith

      later : (k : ℕ) → i ≤ k → suc i ≤ suc k
      later k g = omega arith

      less : (k : ℕ) → k < length ys → suc k < length (y ∷ ys)
      less k g = omega arith

pub sorted_remove : {X : Type 0} (R : X → X → Ordering) (xs : List X) (i : ℕ) → i < length xs → IsStrictlySortedBy R xs → IsStrictlySortedBy R (remove xs i)
unfolding IsStrictlySortedBy
sorted_remove R [] i lt s = absurd (omega arith)
sorted_remove R (x ∷ xs) zero lt s = s.1
sorted_remove R (x ∷ xs) (suc i) lt s = ((every_picked (λ z. R x z ≡ Less) xs i x (omega arith) s.0).1, sorted_remove R xs i (omega arith) s.1)
