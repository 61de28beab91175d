-- Which elements a filtered list has, and a list in strict order without one of its elements.
use Rattle.std.specs.Prelude.{◌≡◌, ℕ, zero, suc, ◌<◌, Bool, true, false, cond, ◌⊎◌, List, [], ◌∷◌, filter, length, get_or, remove}
use Rattle.std.proofs.Common.{Ordering, Less, refl, sym, ap, subst, ◌∙◌, arith, inl, inr, true≢false}
use Rattle.std.specs.List.{Contains}
use Rattle.std.specs.List.Sorted.{IsStrictlySortedBy}
use Rattle.std.specs.Cmp.{IsTotalOrder, tied_itself}
use Rattle.std.proofs.lemmas.List.Elements.{All-contains, filter_passes}
use Rattle.lie_math.proofs.EveryElement.{every-filter, every_contained, every_of_contained, every_picked}
use Rattle.lie_math.proofs.ContainedElements.{contained_cons, contains_first, contains_later, contains_nothing}
use Rattle.lie_math.proofs.SortedLists.{less_equal}

-- ---- filtered lists
pub contained_filter : {X : Type 0} (t : X → Bool) (xs : List X) (x : X) → Contains (filter t xs) x → Contains xs x × (t x ≡ true)
contained_filter t xs x c = (
  every_contained (Contains xs) (filter t xs) x (every-filter (Contains xs) t xs (every_of_contained (Contains xs) xs (λ y k. k))) c,
  All-contains (λ y. t y ≡ true) (filter t xs) x (filter_passes t xs) c,
)

pub contains_filter : {X : Type 0} (t : X → Bool) (xs : List X) (x : X) → Contains xs x → t x ≡ true → Contains (filter t xs) x
contains_filter t [] x c e = absurd (contains_nothing x c)
contains_filter {X = X} t (y ∷ xs) x c e = go (t y) refl (contained_cons y xs x c) (λ d. contains_filter t xs x d e)
  where
    go : (b : Bool) → t y ≡ b → (y ≡ x) ⊎ Contains xs x → (Contains xs x → Contains (filter t xs) x)
        → Contains (cond b (y ∷ filter t xs) (filter t xs)) x
    go true k (inl f) r = subst (Contains (y ∷ filter t xs)) f (contains_first y (filter t xs))
    go true k (inr d) r = contains_later y (filter t xs) x (r d)
    go false k (inl f) r = absurd (true≢false (sym e ∙ ap t (sym f) ∙ k))
    go false k (inr d) r = r d

-- ---- one element less
-- each element is there once
pub not_left : {X : Type 0} (R : X → X → Ordering) → IsTotalOrder R → (xs : List X) (k : ℕ) (d : X) → IsStrictlySortedBy R xs
    → k < length xs → ¬ (Contains (remove xs k) (get_or xs k d))
unfolding IsStrictlySortedBy
not_left R o [] k d s lt c = absurd (omega arith)
not_left R o (x ∷ xs) zero d s lt c = less_equal (every_contained (λ z. R x z ≡ Less) xs x s.0 c) (tied_itself o x)
not_left {X = X} R o (x ∷ xs) (suc k) d s lt c = go (contained_cons x (remove xs k) (get_or xs k d) c)
    (not_left R o xs k d s.1 (omega arith))
  where
    go : (x ≡ get_or xs k d) ⊎ Contains (remove xs k) (get_or xs k d) → ¬ (Contains (remove xs k) (get_or xs k d)) → ⊥
    go (inl e) n = less_equal (every_picked (λ z. R x z ≡ Less) xs k d (omega arith) s.0).0 (ap (R x) (sym e) ∙ tied_itself o x)
    go (inr h) n = n h
