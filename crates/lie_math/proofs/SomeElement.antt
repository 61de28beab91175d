-- What some element of a list has.
use Rattle.std.specs.Prelude.{◌≡◌, ℕ, zero, suc, ◌<◌, List, [], ◌∷◌, ◌++◌, length, slice_index_or}
use Rattle.std.specs.List.{Any}
use Rattle.std.proofs.Common.{refl, sym, subst, arith}

module _ {X : Type 0} (P : X → Type 0) where
  pub any_head : (x : X) (xs : List X) → P x → Any P (x ∷ xs)
  any_head x xs h = (0, x, omega arith, refl, h)

  pub any_tail : (x : X) (xs : List X) → Any P xs → Any P (x ∷ xs)
  any_tail x xs a = (suc a.0, a.1, (let lt : a.0 < length xs = a.2 in omega arith), a.3, a.4)

  pub any_right : (xs ys : List X) → Any P ys → Any P (xs ++ ys)
  any_right [] ys a = a
  any_right (x ∷ xs) ys a = any_tail x (xs ++ ys) (any_right xs ys a)

  pub any_left : (xs ys : List X) → Any P xs → Any P (xs ++ ys)
  any_left xs ys a = at xs a.0 a.1 a.2 a.3 a.4
    where
      at : (xs : List X) (k : ℕ) (x : X) → k < length xs → slice_index_or xs k x ≡ x → P x → Any P (xs ++ ys)
      at [] k x lt is h = absurd (omega arith)
      at (y ∷ xs) zero x lt is h = any_head y (xs ++ ys) (subst P (sym is) h)
      at (y ∷ xs) (suc k) x lt is h = any_tail y (xs ++ ys) (at xs k x (omega arith) is h)
