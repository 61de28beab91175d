-- Which elements a list has: of a list with one more in front, and of a mapped list.
use Rattle.std.specs.Prelude.{◌≡◌, zero, suc, ◌⊎◌, List, [], ◌∷◌, map}
use Rattle.std.proofs.Common.{refl, arith, inl, inr}
use Rattle.std.specs.List.{AllByRecursion as Every, Contains}
use Rattle.std.proofs.lemmas.List.Elements.{Contains-append_right}
use Rattle.lie_math.proofs.EveryElement.{every_contained, every_of_contained, every-map, every-weaken}

-- an element of a list is its first or a later one
pub contained_cons : {X : Type 0} (x : X) (xs : List X) (y : X) → Contains (x ∷ xs) y → (x ≡ y) ⊎ Contains xs y
contained_cons x xs y (zero, lt, is) = inl is
contained_cons x xs y (suc k, lt, is) = inr (k, omega arith, is)

pub contains_first : {X : Type 0} (x : X) (xs : List X) → Contains (x ∷ xs) x
contains_first x xs = (zero, omega arith, refl)

pub contains_later : {X : Type 0} (x : X) (xs : List X) (y : X) → Contains xs y → Contains (x ∷ xs) y
contains_later x xs y k = Contains-append_right (x ∷ []) xs y k

pub contains_nothing : {X : Type 0} (y : X) → ¬ (Contains [] y)
contains_nothing y k = absurd (omega (arith, k.1))

-- ---- elements of mapped lists
pub contains-map : {X Y : Type 0} (g : X → Y) (xs : List X) (x : X) → Contains xs x → Contains (map g xs) (g x)
contains-map {X} {Y} g xs x k = every_contained (λ y. Contains (map g xs) (g y)) xs x (each xs) k
  where
    each : (xs : List X) → Every (λ y. Contains (map g xs) (g y)) xs
    each [] = tt
    each (x ∷ xs) = ((zero, omega arith, refl), every-weaken _ _ (λ y k. Contains-append_right (g x ∷ []) (map g xs) (g y) k) xs (each xs))

-- an element of a mapped list is made of an element
pub contained_map : {X Y : Type 0} (g : X → Y) (xs : List X) (y : Y) → Contains (map g xs) y → (x : X) × Contains xs x × (g x ≡ y)
contained_map {X} {Y} g xs y k = every_contained (λ z. (x : X) × Contains xs x × (g x ≡ z)) (map g xs) y (every-map _ g xs (every_of_contained _ xs (λ x c. (x, c, refl)))) k
