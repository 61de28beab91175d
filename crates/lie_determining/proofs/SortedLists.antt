-- Lists in strict order: two with the same elements are equal. Elements of a list of values of a function.
use Rattle.std.specs.Prelude.{◌≡◌, ℕ, zero, suc, ◌<◌, ◌⊎◌, List, [], ◌∷◌, length, map, All, slice_index_or}
use Rattle.std.proofs.Common.{Ordering, Less, refl, sym, ap₂, subst, arith, inl, inr}
use Rattle.std.specs.List.{AllByRecursion as Every, Any, Contains}
use Rattle.std.specs.List.Sorted.{IsStrictlySortedBy}
use Rattle.std.specs.Cmp.{IsTotalOrder, tied_itself}

-- ---- values of a function
pub all_of_map : {X Y : Type 0} (f : X → Y) (P : Y → Type 0) (xs : List X) → All P (map f xs) → All (λ x. P (f x)) xs
all_of_map f P [] h k d g = absurd (omega arith)
all_of_map f P (x ∷ xs) h zero d g = h zero (f d) (omega arith)
all_of_map {X = X} f P (x ∷ xs) h (suc k) d g = all_of_map f P xs (λ j e m. h (suc j) e (next j m)) k d (less g)
  where
    next : (j : ℕ) → j < length (map f xs) → suc j < length (map f (x ∷ xs))
    next j m = omega arith

    less : suc k < length (x ∷ xs) → k < length xs
    less g = omega arith

pub any_of_map : {X Y : Type 0} (f : X → Y) (P : Y → Type 0) (xs : List X) → Any P (map f xs) → Any (λ x. P (f x)) xs
any_of_map {X = X} f P xs a = go xs a.0 a.1 a.2 a.3 a.4
  where
    go : (xs : List X) (k : ℕ) (y : _) → k < length (map f xs) → slice_index_or (map f xs) k y ≡ y → P y → Any (λ x. P (f x)) xs
    go [] k y g e p = absurd (omega arith)
    go (x ∷ xs) zero y g e p = (0, x, omega arith, refl, subst P (sym e) p)
    go (x ∷ xs) (suc k) y g e p =
        let r = go xs k y (omega arith) e p in
        (suc r.0, r.1, (let lt : r.0 < length xs = r.2 in omega arith), r.3, r.4)

pub all_in_map : {X Y : Type 0} (f : X → Y) (P : Y → Type 0) (xs : List X) → All (λ x. P (f x)) xs → All P (map f xs)
all_in_map f P [] h k d g = absurd (omega arith)
all_in_map f P (x ∷ xs) h zero d g = h zero x (omega arith)
all_in_map {X = X} f P (x ∷ xs) h (suc k) d g = all_in_map f P xs (λ j e m. h (suc j) e (omega arith)) k d (omega arith)

pub any_in_map : {X Y : Type 0} (f : X → Y) (P : Y → Type 0) (xs : List X) → Any (λ x. P (f x)) xs → Any P (map f xs)
any_in_map {X = X} f P xs a = go xs a.0 a.1 a.2 a.3 a.4
  where
    go : (xs : List X) (k : ℕ) (x : X) → k < length xs → slice_index_or xs k x ≡ x → P (f x) → Any P (map f xs)
    go [] k x g e p = absurd (omega arith)
    go (y ∷ xs) zero x g e p = (0, f y, omega arith, refl, subst (λ z. P (f z)) (sym e) p)
    go (y ∷ xs) (suc k) x g e p =
        let r = go xs k x (omega arith) e p in
        (suc r.0, r.1, (let lt : r.0 < length (map f xs) = r.2 in omega arith), r.3, r.4)

pub every_of : {X : Type 0} (P Q : X → Type 0) (xs : List X) → ((x : X) → P x → Q x) → Every P xs → Every Q xs
every_of P Q [] f h = tt
every_of P Q (x ∷ xs) f h = (f x h.0, every_of P Q xs f h.1)

pub every_in_map : {X Y : Type 0} (P : Y → Type 0) (f : X → Y) (xs : List X) → ((x : X) → P (f x)) → Every P (map f xs)
every_in_map P f [] h = tt
every_in_map P f (x ∷ xs) h = (h x, every_in_map P f xs h)

-- ---- elements
pub contains_nothing : {X : Type 0} (x : X) → Contains [] x → ⊥
contains_nothing {X = X} x c = let none : length {A = X} [] ≡ 0 = refl in let g : c.0 < length {A = X} [] = c.1 in omega arith

pub contains_here : {X : Type 0} (x : X) (xs : List X) → Contains (x ∷ xs) x
contains_here x xs = (0, omega arith, refl)

pub contains_later : {X : Type 0} (y : X) (xs : List X) (x : X) → Contains xs x → Contains (y ∷ xs) x
contains_later y xs x c = (suc c.0, (let lt : c.0 < length xs = c.1 in omega arith), c.2)

pub contains_cases : {X : Type 0} (y : X) (xs : List X) (x : X) → Contains (y ∷ xs) x → (y ≡ x) ⊎ Contains xs x
contains_cases y xs x c = go c.0 c.1 c.2
  where
    go : (k : ℕ) → k < length (y ∷ xs) → slice_index_or (y ∷ xs) k x ≡ x → (y ≡ x) ⊎ Contains xs x
    go zero g e = inl e
    go (suc k) g e = inr (k, omega arith, e)

pub every_contains : {X : Type 0} (P : X → Type 0) (xs : List X) (x : X) → Every P xs → Contains xs x → P x
every_contains P [] x h c = absurd (contains_nothing x c)
every_contains P (y ∷ xs) x h c = elim (contains_cases y xs x c) [ inl e ↦ subst P e h.0 | inr d ↦ every_contains P xs x h.1 d ]

-- ---- two lists in order with the same elements
module _ {X : Type 0} (R : X → X → Ordering) (total : IsTotalOrder R) where
  not_below_itself : (x : X) → R x x ≡ Less → ⊥
  not_below_itself x e = let t = tied_itself total x in cc

  not_both : (x y : X) → R x y ≡ Less → R y x ≡ Less → ⊥
  not_both x y e f = not_below_itself x (total.trans x y x e f)

  -- each of the first list that is in y ∷ ys, and not y, is in ys
  all_later : (y : X) (ys xs : List X) → Every (λ x. R y x ≡ Less) xs → Every (Contains (y ∷ ys)) xs → Every (Contains ys) xs
  all_later y ys [] b h = tt
  all_later y ys (x ∷ xs) b h = (
    elim (contains_cases y ys x h.0) [ inl e ↦ absurd (not_below_itself x (subst (λ z. R z x ≡ Less) e b.0)) | inr c ↦ c ],
    all_later y ys xs b.1 h.1,
  )

  pub same_elements : (xs ys : List X) → IsStrictlySortedBy R xs → IsStrictlySortedBy R ys → Every (Contains ys) xs → Every (Contains xs) ys → xs ≡ ys
  unfolding IsStrictlySortedBy
  same_elements [] [] s t h k = refl
  same_elements [] (y ∷ ys) s t h k = absurd (contains_nothing y k.0)
  same_elements (x ∷ xs) [] s t h k = absurd (contains_nothing x h.0)
  same_elements (x ∷ xs) (y ∷ ys) s t h k =
      let e : x ≡ y = heads in
      ap₂ (λ z zs. z ∷ zs) e (same_elements xs ys s.1 t.1
      (all_later y ys xs (subst (λ z. Every (λ w. R z w ≡ Less) xs) e s.0) h.1)
      (all_later x xs ys (subst (λ z. Every (λ w. R z w ≡ Less) ys) (sym e) t.0) k.1))
    where
      heads : x ≡ y
      heads = elim (contains_cases y ys x h.0) [
        | inl e ↦ sym e
        | inr c ↦ elim (contains_cases x xs y k.0) [
          | inl f ↦ f
          | inr d ↦ absurd (not_both y x (every_contains (λ z. R y z ≡ Less) ys x t.0 c) (every_contains (λ z. R x z ≡ Less) xs y s.0 d))
        ]
      ]
