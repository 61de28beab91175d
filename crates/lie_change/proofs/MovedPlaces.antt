-- Where an element stands after others were put into its list.
use Rattle.std.specs.Prelude.{◌≡◌, ℕ, suc, ◌+◌, ◌<◌, ◌≤◌, Bool, true, false, cond, ltb, List, [], ◌∷◌, ◌++◌, length, get_or, remove, take}
use Rattle.std.proofs.Common.{refl, sym, ap, subst, ◌∙◌, arith, ltb-true, ltb-false}
use Rattle.std.proofs.lemmas.List.Edits.{length-remove, get_or-remove_below, get_or-remove_above}
use Rattle.lie_ring.proofs.Fronts.{take_more}
use Rattle.lie_replace.specs.Cleaning.{taken_back, AreFilled}
use Rattle.lie_change.specs.Lists.{moved}

-- ---- one element more
module _ {X : Type 0} (xs : List X) (i : ℕ) (inside : i < length xs) (k : ℕ) (d : X) (lt : k < length (remove xs i)) where
  moved_once : (cond (ltb k i) k (suc k) < length xs) × (get_or xs (cond (ltb k i) k (suc k)) d ≡ get_or (remove xs i) k d)
  moved_once = go (ltb k i) refl
    where
      go : (t : Bool) → ltb k i ≡ t → (cond t k (suc k) < length xs) × (get_or xs (cond t k (suc k)) d ≡ get_or (remove xs i) k d)
      go true e = let below = ltb-true k i e in (omega arith, sym (get_or-remove_below xs i d k below inside))
      go false e =
          let above : i ≤ k = ltb-false k i e in
          let l = length-remove xs i inside in
          let s : suc k ≡ k + 1 = omega arith in (omega arith, ap (λ j. get_or xs j d) s ∙ sym (get_or-remove_above xs i d k above inside))

-- ---- elements put in one after the other
moved_at : {X : Type 0} (places : List ℕ) (xs : List X) (k : ℕ) (d : X) → AreFilled places xs → k < length (taken_back places xs)
    → (moved k places < length xs) × (get_or xs (moved k places) d ≡ get_or (taken_back places xs) k d)
moved_at [] xs k d h lt = (lt, refl)
moved_at (i ∷ is) xs k d h lt =
    let m = moved_once (taken_back is xs) i h.1 k d lt in
    let r = moved_at is xs (cond (ltb k i) k (suc k)) d h.0 m.0 in (r.0, r.1 ∙ m.1)

moved_back : {X : Type 0} (places : List ℕ) (xs ys : List X) (k : ℕ) (d : X) → AreFilled places xs → taken_back places xs ≡ ys
    → k < length ys → (moved k places < length xs) × (get_or xs (moved k places) d ≡ get_or ys k d)
moved_back places xs ys k d h e lt =
    let m = moved_at places xs k d h (subst (λ zs. k < length zs) (sym e) lt) in (m.0, m.1 ∙ ap (λ zs. get_or zs k d) e)

-- the place as it is found
pub found_again : {X : Type 0} (places slice : List ℕ) (xs ys : List X) (k m : ℕ) (d : X) → AreFilled places xs → taken_back places xs ≡ ys
    → k < length ys → slice ≡ places → m ≡ moved k slice → (m < length xs) × (get_or xs m d ≡ get_or ys k d)
found_again places slice xs ys k m d h e lt s f =
    subst (λ j. (j < length xs) × (get_or xs j d ≡ get_or ys k d)) (sym (f ∙ ap (moved k) s)) (moved_back places xs ys k d h e lt)

-- ---- places read one after the other
moved-append : (k : ℕ) (is js : List ℕ) → moved k (is ++ js) ≡ moved (moved k is) js
moved-append k [] js = refl
moved-append k (i ∷ is) js = moved-append (cond (ltb k i) k (suc k)) is js

pub moved_more : (k : ℕ) (places : List ℕ) (i now : ℕ) (place : ℕ) → i < length places → place ≡ get_or places i place
    → now ≡ moved k (take i places) → cond (ltb now place) now (suc now) ≡ moved k (take (i + 1) places)
moved_more k places i now place lt is e = ap (λ n. cond (ltb n place) n (suc n)) e ∙ sym (moved-append k (take i places) (place ∷ []))
    ∙ ap (moved k) (take_more places i place lt is)

pub small_more : (now put next place i : ℕ) → next ≡ cond (ltb now put) now (suc now) → now ≤ place + i → next ≤ place + (i + 1)
small_more now put next place i e h = go (ltb now put) e
  where
    go : (t : Bool) → next ≡ cond t now (suc now) → next ≤ place + (i + 1)
    go true k = omega arith
    go false k = omega arith
