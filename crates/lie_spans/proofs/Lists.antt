-- What each two elements of a list have.
use Rattle.std.specs.Prelude.{List, [], ◌∷◌, ◌++◌, map}
use Rattle.std.specs.List.{AllByRecursion as Every}
use Rattle.lie_math.proofs.EveryElement.{every_both, every-append, every-map}
use Rattle.lie_spans.specs.Spans.{EveryTwo}

module _ {X : Type 0} where
  pub every_all : (P : X → Type 0) → ((x : X) → P x) → (xs : List X) → Every P xs
  every_all P f [] = tt
  every_all P f (x ∷ xs) = (f x, every_all P f xs)

  pub every_two-append : (R : X → X → Type 0) (xs ys : List X) → EveryTwo R xs → EveryTwo R ys → Every (λ x. Every (R x) ys) xs → EveryTwo R (xs ++ ys)
  every_two-append R [] ys h k m = k
  every_two-append R (x ∷ xs) ys h k m = (every-append (R x) xs ys h.0 m.0, every_two-append R xs ys h.1 k m.1)

  pub every_two-weaken : (P : X → Type 0) (R S : X → X → Type 0) → ((x y : X) → P x → P y → R x y → S x y) → (xs : List X) → Every P xs → EveryTwo R xs → EveryTwo S xs
  every_two-weaken P R S f [] a h = tt
  every_two-weaken P R S f (x ∷ xs) a h = (every_both P (R x) (S x) (λ y p r. f x y a.0 p r) xs a.1 h.0, every_two-weaken P R S f xs a.1 h.1)

pub every_two-map : {X Y : Type 0} (f : X → Y) (R : Y → Y → Type 0) (xs : List X) → EveryTwo (λ x y. R (f x) (f y)) xs → EveryTwo R (map f xs)
every_two-map f R [] h = tt
every_two-map f R (x ∷ xs) h = (every-map (R (f x)) f xs h.0, every_two-map f R xs h.1)
