-- The pairs of a list, gathered by the places of their first and second elements.
use Rattle.std.specs.Prelude.{◌≡◌, ℕ, zero, suc, ◌+◌, ◌<◌, List, [], ◌∷◌, ◌++◌, length, map, take, get_or}
use Rattle.std.proofs.Common.{refl, sym, ap, subst, ◌∙◌, arith}
use Rattle.std.proofs.Math.Seq.{take-length}
use Rattle.std.proofs.lemmas.List.{map-append, append-nil, append_assoc}
use Rattle.std.proofs.lemmas.List.Elements.{Contains-append_left, Contains-append_right}
use Rattle.std.specs.List.{Contains}
use Rattle.lie_math.proofs.ContainedElements.{contains-map}
use Rattle.lie_ring.proofs.Fronts.{take_more}
use Rattle.lie_brackets.specs.Generators.{pairs_from, pairs_before}
use Rattle.lie_brackets.specs.Tables.{pairs_of}

module _ {X : Type 0} where
  -- ---- all pairs
  before_with_first : (i : ℕ) (x : X) (xs : List X) → pairs_before (suc i) (x ∷ xs) ≡ map (λ y. (x, y)) xs ++ pairs_before i xs
  before_with_first zero x xs = ap (map (λ y. (x, y))) (take-length xs) ∙ sym (append-nil (map (λ y. (x, y)) xs))
  before_with_first (suc i) x xs =
      ap (λ ps. ps ++ pairs_from i (length xs) xs) (before_with_first i x xs)
      ∙ append_assoc (map (λ y. (x, y)) xs) (pairs_before i xs) (pairs_from i (length xs) xs)

  pub all_pairs : (xs : List X) → pairs_before (length xs) xs ≡ pairs_of xs
  all_pairs [] = refl
  all_pairs (x ∷ xs) = before_with_first (length xs) x xs ∙ ap (λ ps. map (λ y. (x, y)) xs ++ ps) (all_pairs xs)

  -- ---- one pair more
  later_from : (xs : List X) (i j : ℕ) (x y : X) → i < j → j < length xs → x ≡ get_or xs i x → y ≡ get_or xs j y
      → pairs_from i (suc j) xs ≡ pairs_from i j xs ++ (x, y) ∷ []
  later_from [] i j x y l m e f = absurd (omega arith)
  later_from (z ∷ xs) i zero x y l m e f = absurd (omega arith)
  later_from (z ∷ xs) zero (suc j) x y l m e f =
      ap (map (λ w. (z, w))) (ap (λ n. take n xs) (let s : suc j ≡ j + 1 = omega arith in s) ∙ sym (take_more xs j y (omega arith) f))
      ∙ map-append (λ w. (z, w)) (take j xs) (y ∷ [])
      ∙ ap (λ w. map (λ u. (z, u)) (take j xs) ++ (w, y) ∷ []) (sym e)
  later_from (z ∷ xs) (suc i) (suc j) x y l m e f = later_from xs i j x y (omega arith) (omega arith) e f

  pub one_pair_more : (xs : List X) (i j : ℕ) (x y : X) → i < j → j < length xs → x ≡ get_or xs i x → y ≡ get_or xs j y
      → pairs_from i (j + 1) xs ≡ pairs_from i j xs ++ (x, y) ∷ []
  one_pair_more xs i j x y l m e f = ap (λ n. pairs_from i n xs) (let s : j + 1 ≡ suc j = omega arith in s) ∙ later_from xs i j x y l m e f

  -- ---- which pairs there are
  pub pair_contained : (xs : List X) (i j : ℕ) (x y : X) → i < j → j < length xs → x ≡ get_or xs i x → y ≡ get_or xs j y
      → Contains (pairs_of xs) (x, y)
  pair_contained [] i j x y l m e f = absurd (omega arith)
  pair_contained (z ∷ xs) i zero x y l m e f = absurd (omega arith)
  pair_contained (z ∷ xs) zero (suc j) x y l m e f =
      Contains-append_left (map (λ w. (z, w)) xs) (pairs_of xs) (x, y)
      (subst (λ u. Contains {X = X × X} (map (λ w. (z, w)) xs) (u, y)) (sym e) (contains-map (λ w. (z, w)) xs y (j, omega arith, sym f)))
  pair_contained (z ∷ xs) (suc i) (suc j) x y l m e f =
      Contains-append_right (map (λ w. (z, w)) xs) (pairs_of xs) (x, y) (pair_contained xs i j x y (omega arith) (omega arith) e f)

pub mapped_element : {X Y : Type 0} (f : X → Y) (xs : List X) (i : ℕ) (x : X) → i < length xs → x ≡ get_or xs i x → f x ≡ get_or (map f xs) i (f x)
mapped_element f [] i x l e = absurd (omega arith)
mapped_element f (z ∷ xs) zero x l e = ap f e
mapped_element f (z ∷ xs) (suc i) x l e = mapped_element f xs i x (omega arith) e
