-- Lists that are gone through from the end.
use Rattle.std.specs.Prelude.{◌≡◌, ℕ, zero, suc, ◌+◌, ◌-◌, ◌<◌, ◌≤◌, Bool, true, false, ◌||◌, List, [], ◌∷◌, length, drop, map}
use Rattle.std.specs.List.{Any, AllByRecursion as Every, list_any}
use Rattle.std.proofs.Common.{refl, sym, ap, subst, ◌∙◌, arith, get_or}
use Rattle.lie_jet.proofs.ListPlaces.{cut_map}
use Rattle.lie_math.proofs.SomeElement.{any_head, any_tail}

module _ {X Y : Type 0} (f : X → Y) (P : Y → Type 0) where
  pub any_at : (xs : List X) (k : ℕ) (x : X) → k < length xs → x ≡ get_or xs k x → P (f x) → Any P (map f xs)
  any_at [] k x h e p = absurd (omega arith)
  any_at (y ∷ xs) zero x h e p = any_head P (f y) (map f xs) (subst (λ z. P (f z)) e p)
  any_at (y ∷ xs) (suc k) x h e p = any_tail P (f y) (map f xs) (any_at xs k x (omega arith) e p)

  pub entry_at : (xs : List X) (k : ℕ) (x : X) → k < length xs → x ≡ get_or xs k x → Every P (map f xs) → P (f x)
  entry_at [] k x h e all = absurd (omega arith)
  entry_at (y ∷ xs) zero x h e all = subst (λ z. P (f z)) (sym e) all.0
  entry_at (y ∷ xs) (suc k) x h e all = entry_at xs k x (omega arith) e all.1

  step : (xs : List X) (k : ℕ) (x : X) → k < length xs → x ≡ get_or xs k x → P (f x) → Every P (drop (suc k) (map f xs)) → Every P (drop k (map f xs))
  step [] k x h e p all = absurd (omega arith)
  step (y ∷ xs) zero x h e p all = (subst (λ z. P (f z)) e p, all)
  step (y ∷ xs) (suc k) x h e p all = step xs k x (omega arith) e p all

  pub every_step : (xs : List X) (i : ℕ) (x : X) → 0 < i → i ≤ length xs → x ≡ get_or xs (i - 1) x → P (f x) → Every P (drop i (map f xs)) → Every P (drop (i - 1) (map f xs))
  every_step xs zero x z h e p all = absurd (omega arith)
  every_step xs (suc k) x z h e p all = subst (λ n. Every P (drop n (map f xs))) (back k) (step xs k x (omega arith) (subst (λ n. x ≡ get_or xs n x) (sym (back k)) e) p all)
    where
      back : (k : ℕ) → k ≡ suc k - 1
      back k = omega arith

  pub none_left : (xs : List X) (i : ℕ) → length xs ≤ i → Every P (drop i (map f xs))
  none_left [] zero h = tt
  none_left [] (suc i) h = tt
  none_left (x ∷ xs) zero h = absurd (omega arith)
  none_left (x ∷ xs) (suc i) h = none_left xs i (omega arith)

-- an element in the list is not the one that stands in for those past it
pub get_same : {X : Type 0} (xs : List X) (k : ℕ) (z : X) → k < length xs → get_or xs k z ≡ get_or xs k (get_or xs k z)
get_same [] k z h = absurd (omega arith)
get_same (x ∷ xs) zero z h = refl
get_same (x ∷ xs) (suc k) z h = get_same xs k z (omega arith)

module _ {X Y : Type 0} (f : X → Y) (t : Y → Bool) where
  pub test_here : (xs : List X) (k : ℕ) (x : X) → k < length xs → x ≡ get_or xs k x → t (f x) ≡ true → list_any t (drop k (map f xs)) ≡ true
  test_here xs k x h e p = ap (list_any t) (cut_map f xs k x h e) ∙ ap (λ b. b || list_any t (drop (k + 1) (map f xs))) p

  pub test_later : (xs : List X) (k : ℕ) (x : X) → k < length xs → x ≡ get_or xs k x → t (f x) ≡ false → list_any t (drop k (map f xs)) ≡ list_any t (drop (k + 1) (map f xs))
  test_later xs k x h e p = ap (list_any t) (cut_map f xs k x h e) ∙ ap (λ b. b || list_any t (drop (k + 1) (map f xs))) p

  pub no_test_left : (xs : List X) (i : ℕ) → length xs ≤ i → list_any t (drop i (map f xs)) ≡ false
  no_test_left [] zero h = refl
  no_test_left [] (suc i) h = refl
  no_test_left (x ∷ xs) zero h = absurd (omega arith)
  no_test_left (x ∷ xs) (suc i) h = no_test_left xs i (omega arith)
