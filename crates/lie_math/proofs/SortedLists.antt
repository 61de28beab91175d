-- Strictly sorted lists: they are told by their elements, and an element can be put in.
use Rattle.std.specs.Prelude.{◌≡◌, ◌⊎◌, List, [], ◌∷◌, ◌↔◌}
use Rattle.std.proofs.Common.{refl, sym, ap, ap₂, subst, ◌∙◌, inl, inr, Ordering, Less, Equal, Greater, is_lt, true≢false}
use Rattle.std.specs.Cmp.{IsTotalOrder, tied_itself}
use Rattle.std.specs.Ordering.{ordering_reverse}
use Rattle.std.specs.FinMap.{IsAntisymmetric}
use Rattle.std.specs.List.{AllByRecursion as Every, Contains}
use Rattle.std.specs.List.Sorted.{IsStrictlySortedBy}
use Rattle.lie_math.proofs.EveryElement.{every_contained, every_of_contained}
use Rattle.lie_math.proofs.ContainedElements.{contained_cons, contains_first, contains_later, contains_nothing}

pub less_equal : {r : Ordering} → r ≡ Less → r ≡ Equal → ⊥
less_equal h k = true≢false (sym (ap is_lt h) ∙ ap is_lt k)

pub less_greater : {r : Ordering} → r ≡ Less → r ≡ Greater → ⊥
less_greater h k = true≢false (sym (ap is_lt h) ∙ ap is_lt k)

module _ {K : Type 0} (R : K → K → Ordering) (o : IsTotalOrder R) (same : IsAntisymmetric R) where
  pub not_both_less : (x y : K) → R x y ≡ Less → R y x ≡ Less → ⊥
  not_both_less x y h k = less_greater k (o.antisymm y x ∙ ap ordering_reverse h)

  same_first : (x y : K) (xs ys : List K) → IsStrictlySortedBy R (x ∷ xs) → IsStrictlySortedBy R (y ∷ ys) → Contains (y ∷ ys) x → Contains (x ∷ xs) y → x ≡ y
  unfolding IsStrictlySortedBy
  same_first x y xs ys h g c d = go (contained_cons y ys x c) (contained_cons x xs y d)
    where
      go : (y ≡ x) ⊎ Contains ys x → (x ≡ y) ⊎ Contains xs y → x ≡ y
      go (inl e) d = sym e
      go (inr k) (inl e) = e
      go (inr k) (inr l) = absurd (not_both_less x y (every_contained (λ z. R x z ≡ Less) xs y h.0 l) (every_contained (λ z. R y z ≡ Less) ys x g.0 k))

  in_rest : (x y z : K) (xs ys : List K) → x ≡ y → IsStrictlySortedBy R (x ∷ xs) → Contains xs z → Contains (y ∷ ys) z → Contains ys z
  unfolding IsStrictlySortedBy
  in_rest x y z xs ys e h c d = go (contained_cons y ys z d)
    where
      go : (y ≡ z) ⊎ Contains ys z → Contains ys z
      go (inl f) = absurd (less_equal (every_contained (λ z. R x z ≡ Less) xs z h.0 c) (ap (R x) (sym (e ∙ f)) ∙ tied_itself o x))
      go (inr k) = k

  -- two sorted lists with the same elements are one
  pub sorted_unique : (xs ys : List K) → IsStrictlySortedBy R xs → IsStrictlySortedBy R ys → ((z : K) → Contains xs z ↔ Contains ys z) → xs ≡ ys
  unfolding IsStrictlySortedBy
  sorted_unique [] [] h g f = refl
  sorted_unique [] (y ∷ ys) h g f = absurd (contains_nothing y ((f y).1 (contains_first y ys)))
  sorted_unique (x ∷ xs) [] h g f = absurd (contains_nothing x ((f x).0 (contains_first x xs)))
  sorted_unique (x ∷ xs) (y ∷ ys) h g f =
      let e : x ≡ y = same_first x y xs ys h g ((f x).0 (contains_first x xs)) ((f y).1 (contains_first y ys)) in
      ap₂ ◌∷◌ e (sorted_unique xs ys h.1 g.1 (λ z. (
        λ c. in_rest x y z xs ys e h c ((f z).0 (contains_later x xs z c)),
        λ c. in_rest y x z ys xs (sym e) g c ((f z).1 (contains_later y ys z c)),
      )))

  -- ---- an element put in
  pub record IsInserted (x : K) (xs ys : List K) : Type 0 where
    pub sorted : IsStrictlySortedBy R ys
    pub elements : (z : K) → Contains ys z ↔ ((x ≡ z) ⊎ Contains xs z)

  under_all : (x y : K) (ys : List K) → R x y ≡ Less → Every (λ z. R y z ≡ Less) ys → Every (λ z. R x z ≡ Less) ys
  under_all x y [] h k = tt
  under_all x y (z ∷ ys) h k = (o.trans x y z h k.0, under_all x y ys h k.1)

  pub insert : (x : K) (xs : List K) → IsStrictlySortedBy R xs → (ys : List K) × IsInserted x xs ys
  unfolding IsStrictlySortedBy
  insert x [] h = (x ∷ [], record { sorted = (tt, tt); elements = λ z. (contained_cons x [] z, λ c. put z c) })
    where
      put : (z : K) → (x ≡ z) ⊎ Contains [] z → Contains (x ∷ []) z
      put z (inl e) = subst (Contains (x ∷ [])) e (contains_first x [])
      put z (inr k) = absurd (contains_nothing z k)
  insert x (y ∷ xs) h = by (R x y) refl (insert x xs h.1)
    where
      first : (z : K) → (x ≡ z) ⊎ Contains (y ∷ xs) z → Contains (x ∷ y ∷ xs) z
      first z (inl e) = subst (Contains (x ∷ y ∷ xs)) e (contains_first x (y ∷ xs))
      first z (inr k) = contains_later x (y ∷ xs) z k

      tied : x ≡ y → (z : K) → (x ≡ z) ⊎ Contains (y ∷ xs) z → Contains (y ∷ xs) z
      tied e z (inl f) = subst (Contains (y ∷ xs)) (sym e ∙ f) (contains_first y xs)
      tied e z (inr k) = k

      down : (ys : List K) → IsInserted x xs ys → (z : K) → Contains (y ∷ ys) z → (x ≡ z) ⊎ Contains (y ∷ xs) z
      down ys i z c = one (contained_cons y ys z c)
        where
          two : (x ≡ z) ⊎ Contains xs z → (x ≡ z) ⊎ Contains (y ∷ xs) z
          two (inl e) = inl e
          two (inr k) = inr (contains_later y xs z k)

          one : (y ≡ z) ⊎ Contains ys z → (x ≡ z) ⊎ Contains (y ∷ xs) z
          one (inl e) = inr (subst (Contains (y ∷ xs)) e (contains_first y xs))
          one (inr k) = two ((i.elements z).0 k)

      up : (ys : List K) → IsInserted x xs ys → (z : K) → (x ≡ z) ⊎ Contains (y ∷ xs) z → Contains (y ∷ ys) z
      up ys i z (inl e) = contains_later y ys z ((i.elements z).1 (inl e))
      up ys i z (inr k) = one (contained_cons y xs z k)
        where
          one : (y ≡ z) ⊎ Contains xs z → Contains (y ∷ ys) z
          one (inl e) = subst (Contains (y ∷ ys)) e (contains_first y ys)
          one (inr k) = contains_later y ys z ((i.elements z).1 (inr k))

      above : (ys : List K) → IsInserted x xs ys → R y x ≡ Less → Every (λ z. R y z ≡ Less) ys
      above ys i lt = every_of_contained (λ z. R y z ≡ Less) ys (λ z c. one z ((i.elements z).0 c))
        where
          one : (z : K) → (x ≡ z) ⊎ Contains xs z → R y z ≡ Less
          one z (inl e) = ap (R y) (sym e) ∙ lt
          one z (inr k) = every_contained (λ z. R y z ≡ Less) xs z h.0 k

      by : (r : Ordering) → R x y ≡ r → (ys : List K) × IsInserted x xs ys → (ys : List K) × IsInserted x (y ∷ xs) ys
      by Less e i = (x ∷ y ∷ xs, record { sorted = ((e, under_all x y xs e h.0), h); elements = λ z. (contained_cons x (y ∷ xs) z, first z) })
      by Equal e i = (y ∷ xs, record { sorted = h; elements = λ z. (λ c. inr c, tied (same x y e) z) })
      by Greater e i = (y ∷ i.0, record { sorted = (above i.0 i.1 (o.antisymm y x ∙ ap ordering_reverse e), (i.1).sorted); elements = λ z. (down i.0 i.1 z, up i.0 i.1 z) })
