-- Places in a list, and in the list of what a function makes of its elements.
use Rattle.std.specs.Prelude.{◌≡◌, ℕ, zero, suc, ◌+◌, ◌<◌, List, [], ◌∷◌, ◌++◌, length, map, take, drop}
use Rattle.std.proofs.Common.{refl, sym, ap, ◌∙◌, arith, get_or}
use Rattle.std.proofs.Math.ListN.{set}
use Rattle.std.proofs.lemmas.List.{take_more, drop_more, length-map}

-- ---- places in a list
module _ {X Y : Type 0} (f : X → Y) where
  pub get_map : (xs : List X) (i : ℕ) (x : X) → x ≡ get_or xs i x → f x ≡ get_or (map f xs) i (f x)
  get_map [] i x e = refl
  get_map (y ∷ ys) zero x e = ap f e
  get_map (y ∷ ys) (suc i) x e = get_map ys i x e

  pub cut_map : (xs : List X) (i : ℕ) (x : X) → i < length xs → x ≡ get_or xs i x → drop i (map f xs) ≡ f x ∷ drop (i + 1) (map f xs)
  cut_map xs i x h e = drop_more (map f xs) i (f x) (omega (arith, length-map xs f)) ∙ ap (λ z. z ∷ drop (i + 1) (map f xs)) (sym (get_map xs i x e))

  pub take_map : (xs : List X) (i : ℕ) (x : X) → i < length xs → x ≡ get_or xs i x → take (i + 1) (map f xs) ≡ take i (map f xs) ++ f x ∷ []
  take_map xs i x h e = take_more (map f xs) i (f x) (omega (arith, length-map xs f)) ∙ ap (λ z. take i (map f xs) ++ z ∷ []) (sym (get_map xs i x e))

  pub insert_map : (xs : List X) (i : ℕ) (x : X) → map f (take i xs ++ x ∷ drop i xs) ≡ take i (map f xs) ++ f x ∷ drop i (map f xs)
  insert_map [] zero x = refl
  insert_map [] (suc i) x = refl
  insert_map (y ∷ ys) zero x = refl
  insert_map (y ∷ ys) (suc i) x = ap (λ l. f y ∷ l) (insert_map ys i x)

  pub remove_map : (xs : List X) (i : ℕ) → map f (take i xs ++ drop (suc i) xs) ≡ take i (map f xs) ++ drop (suc i) (map f xs)
  remove_map [] zero = refl
  remove_map [] (suc i) = refl
  remove_map (y ∷ ys) zero = refl
  remove_map (y ∷ ys) (suc i) = ap (λ l. f y ∷ l) (remove_map ys i)

module _ {Y : Type 0} where
  pub after_cut : (ys fs : List Y) (i : ℕ) (e : Y) → drop i ys ≡ e ∷ fs → drop (suc i) ys ≡ fs
  after_cut [] fs zero e h = cc
  after_cut [] fs (suc i) e h = cc
  after_cut (y ∷ ys) fs zero e h = cc
  after_cut (y ∷ ys) fs (suc i) e h = after_cut ys fs i e h

  pub set_cut : (ys fs : List Y) (i : ℕ) (e y : Y) → drop i ys ≡ e ∷ fs → set ys i y ≡ take i ys ++ y ∷ fs
  set_cut [] fs zero e y h = cc
  set_cut [] fs (suc i) e y h = cc
  set_cut (z ∷ zs) fs zero e y h = cc
  set_cut (z ∷ zs) fs (suc i) e y h = ap (λ l. z ∷ l) (set_cut zs fs i e y h)

  pub head_cut : (ys fs : List Y) (i : ℕ) (e d : Y) → drop i ys ≡ e ∷ fs → d ≡ get_or ys i d → d ≡ e
  head_cut [] fs zero e d h q = cc
  head_cut [] fs (suc i) e d h q = cc
  head_cut (z ∷ zs) fs zero e d h q = cc
  head_cut (z ∷ zs) fs (suc i) e d h q = head_cut zs fs i e d h q
