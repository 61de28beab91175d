-- Rows of keys as keys are noted at a place.
use Rattle.std.specs.Prelude.{◌≡◌, ℕ, zero, suc, ◌<◌, ◌≤◌, List, [], ◌∷◌, ◌++◌, length, get_or, remove, slice_set}
use Rattle.std.proofs.Common.{refl, ap, ◌∙◌, arith, append_assoc, append-nil}
use Rattle.std.specs.List.{insert}
use Rattle.std.proofs.lemmas.List.{get_or-set_same, set-get_or}
use Rattle.lie_tables.specs.Places.{with_key, with_keys}

module _ {K : Type 0} where
  set_twice : (rows : List (List K)) (i : ℕ) (x y : List K) → slice_set (slice_set rows i x) i y ≡ slice_set rows i y
  set_twice [] i x y = refl
  set_twice (r ∷ rows) zero x y = refl
  set_twice (r ∷ rows) (suc i) x y = ap (λ rs. r ∷ rs) (set_twice rows i x y)

  pub no_keys : (rows : List (List K)) (i : ℕ) → with_keys rows i [] ≡ rows
  no_keys rows i = ap (slice_set rows i) (append-nil (get_or rows i [])) ∙ set-get_or rows i []

  pub key_more : (rows : List (List K)) (i : ℕ) (ks : List K) (k : K) → i < length rows
      → with_key (with_keys rows i ks) i k ≡ with_keys rows i (ks ++ k ∷ [])
  key_more rows i ks k lt = set_twice rows i (get_or rows i [] ++ ks) (get_or (with_keys rows i ks) i [] ++ k ∷ [])
      ∙ ap (λ r. slice_set rows i (r ++ k ∷ [])) (get_or-set_same rows i (get_or rows i [] ++ ks) [] lt)
      ∙ ap (slice_set rows i) (append_assoc (get_or rows i []) ks (k ∷ []))

  pub keys_put : (rows : List (List K)) (i : ℕ) (ks : List K) → i ≤ length rows → with_keys (insert rows i []) i ks ≡ insert rows i ks
  keys_put rows zero ks le = refl
  keys_put [] (suc i) ks le = absurd (omega arith)
  keys_put (r ∷ rows) (suc i) ks le = ap (λ rs. r ∷ rs) (keys_put rows i ks (omega arith))

  pub keys_dropped : (rows : List (List K)) (i : ℕ) (ks : List K) → i ≤ length rows → remove (with_keys (insert rows i []) i ks) i ≡ rows
  keys_dropped rows zero ks le = refl
  keys_dropped [] (suc i) ks le = absurd (omega arith)
  keys_dropped (r ∷ rows) (suc i) ks le = ap (λ rs. r ∷ rs) (keys_dropped rows i ks (omega arith))

  pub longer : (rows : List (List K)) (i : ℕ) (x : List K) → i ≤ length rows → i < length (insert rows i x)
  longer rows zero x le = omega arith
  longer [] (suc i) x le = absurd (omega arith)
  longer (r ∷ rows) (suc i) x le = let h = longer rows i x (omega arith) in omega arith

  pub set_length : (rows : List (List K)) (i : ℕ) (x : List K) → length (slice_set rows i x) ≡ length rows
  set_length [] i x = refl
  set_length (r ∷ rows) zero x = refl
  set_length (r ∷ rows) (suc i) x = ap suc (set_length rows i x)
