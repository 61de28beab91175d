-- What all elements of a list have: of joined, filtered and mapped lists, of a list without one element, and of one element.
use Rattle.std.specs.Prelude.{◌≡◌, ℕ, zero, suc, ◌<◌, Bool, true, false, cond, List, [], ◌∷◌, ◌++◌, filter, length, get_or, remove, map}
use Rattle.std.proofs.Common.{refl, sym, subst, arith}
use Rattle.std.specs.List.{AllByRecursion as Every, Contains}
use Rattle.std.proofs.lemmas.List.Elements.{All-contains, All-from_recursion, Contains-append_right}

module _ {X : Type 0} (P : X → Type 0) where
  pub every-append : (xs ys : List X) → Every P xs → Every P ys → Every P (xs ++ ys)
  every-append [] ys h k = k
  every-append (x ∷ xs) ys h k = (h.0, every-append xs ys h.1 k)

  pub every-front : (xs ys : List X) → Every P (xs ++ ys) → Every P xs
  every-front [] ys h = tt
  every-front (x ∷ xs) ys h = (h.0, every-front xs ys h.1)

  pub every-back : (xs ys : List X) → Every P (xs ++ ys) → Every P ys
  every-back [] ys h = h
  every-back (x ∷ xs) ys h = every-back xs ys h.1

  pub every-filter : (t : X → Bool) (xs : List X) → Every P xs → Every P (filter t xs)
  every-filter t [] h = tt
  every-filter t (x ∷ xs) h = elim (t x) as (λ b. Every P (cond b (x ∷ filter t xs) (filter t xs))) [ true ↦ (h.0, every-filter t xs h.1) | false ↦ every-filter t xs h.1 ]

  pub every_picked : (xs : List X) (i : ℕ) (d : X) → i < length xs → Every P xs → P (get_or xs i d) × Every P (remove xs i)
  every_picked [] i d lt h = absurd (omega arith)
  every_picked (x ∷ xs) zero d lt h = (h.0, h.1)
  every_picked (x ∷ xs) (suc i) d lt h = let r = every_picked xs i d (omega arith) h.1 in (r.0, (h.0, r.1))

  pub every_put_back : (xs : List X) (i : ℕ) (d : X) → i < length xs → P (get_or xs i d) → Every P (remove xs i) → Every P xs
  every_put_back [] i d lt p h = tt
  every_put_back (x ∷ xs) zero d lt p h = (p, h)
  every_put_back (x ∷ xs) (suc i) d lt p h = (h.0, every_put_back xs i d (omega arith) p h.1)

  pub every-map : {Y : Type 0} (g : Y → X) (ys : List Y) → Every (λ y. P (g y)) ys → Every P (map g ys)
  every-map g [] h = tt
  every-map g (y ∷ ys) h = (h.0, every-map g ys h.1)

  pub every_mapped : {Y : Type 0} (g : Y → X) (ys : List Y) → Every P (map g ys) → Every (λ y. P (g y)) ys
  every_mapped g [] h = tt
  every_mapped g (y ∷ ys) h = (h.0, every_mapped g ys h.1)

  -- what an element of the list has
  pub every_contained : (xs : List X) (x : X) → Every P xs → Contains xs x → P x
  every_contained xs x h k = All-contains P xs x (All-from_recursion P xs h) k

  pub every_of_contained : (xs : List X) → ((x : X) → Contains xs x → P x) → Every P xs
  every_of_contained [] f = tt
  every_of_contained (x ∷ xs) f = (f x (zero, omega arith, refl), every_of_contained xs (λ y k. f y (Contains-append_right (x ∷ []) xs y k)))

pub every_both : {X : Type 0} (P Q R : X → Type 0) → ((x : X) → P x → Q x → R x) → (xs : List X) → Every P xs → Every Q xs → Every R xs
every_both P Q R f [] h k = tt
every_both P Q R f (x ∷ xs) h k = (f x h.0 k.0, every_both P Q R f xs h.1 k.1)

pub every-weaken : {X : Type 0} (P Q : X → Type 0) → ((x : X) → P x → Q x) → (xs : List X) → Every P xs → Every Q xs
every-weaken P Q f [] h = tt
every-weaken P Q f (x ∷ xs) h = (f x h.0, every-weaken P Q f xs h.1)

-- an element at a place has what all have
pub every_at : {X : Type 0} (P : X → Type 0) (xs : List X) (i : ℕ) (x : X) → i < length xs → x ≡ get_or xs i x → Every P xs → P x
every_at P [] i x lt is h = absurd (omega arith)
every_at P (y ∷ xs) zero x lt is h = subst P (sym is) h.0
every_at P (y ∷ xs) (suc i) x lt is h = every_at P xs i x (omega arith) is h.1
