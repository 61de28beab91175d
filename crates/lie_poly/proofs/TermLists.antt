-- Lists of terms, with what their coefficients are.
use Rattle.std.proofs.Common.{◌≡◌, ℕ, zero, suc, ◌+◌, ◌<◌, List, [], ◌∷◌, ◌++◌, length, get_or, take, refl, sym, ap, ◌∙◌, ℤ}
use Rattle.std.proofs.lemmas.List.{take_more}
use Rattle.lie_math.specs.Monomial.{Monomial}
use Rattle.lie_ring.specs.Entries.{entries}

module _ {C : Type 0} (value : C → ℤ) where
  pub entries-append : (xs ys : List (Monomial × C)) → entries value (xs ++ ys) ≡ entries value xs ++ entries value ys
  entries-append [] ys = refl
  entries-append (x ∷ xs) ys = ap (λ es. (x.0, value x.1) ∷ es) (entries-append xs ys)

  pub length-entries : (xs : List (Monomial × C)) → length (entries value xs) ≡ length xs
  length-entries [] = refl
  length-entries (x ∷ xs) = ap suc (length-entries xs)

  pub get-entries : (xs : List (Monomial × C)) (i : ℕ) (x : Monomial × C) → x ≡ get_or xs i x → (x.0, value x.1) ≡ get_or (entries value xs) i (x.0, value x.1)
  get-entries [] i x e = refl
  get-entries (y ∷ ys) zero x e = ap (λ (z : Monomial × C). (z.0, value z.1)) e
  get-entries (y ∷ ys) (suc i) x e = get-entries ys i x e

  pub entries_more : (xs : List (Monomial × C)) (i : ℕ) (x : Monomial × C) → i < length xs → x ≡ get_or xs i x → entries value (take (i + 1) xs) ≡ entries value (take i xs) ++ (x.0, value x.1) ∷ []
  entries_more xs i x h e = ap (entries value) (take_more xs i x h) ∙ entries-append (take i xs) (get_or xs i x ∷ []) ∙ ap (λ (y : Monomial × C). entries value (take i xs) ++ (y.0, value y.1) ∷ []) (sym e)
