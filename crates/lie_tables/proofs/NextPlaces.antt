-- The next place of an element that passes a test.
use Rattle.std.specs.Prelude.{◌≡◌, ℕ, zero, suc, ◌+◌, ◌<◌, ◌≤◌, Bool, true, false, cond, ltb, Option, None, Some, List, [], ◌∷◌, length, get_or}
use Rattle.std.specs.List.Sorted.{IsPartitionedBy, IsPartitionPoint}
use Rattle.std.proofs.Common.{refl, sym, ap, subst, ◌∙◌, arith}
use Rattle.std.proofs.lemmas.Bool.Decides.{nat_tests}
use Rattle.lie_math.specs.LinearForm.{LinearForm, no_form}
use Rattle.lie_tables.specs.Places.{places_from, places_where, first_from}
use Rattle.lie_tables.specs.Tables.{IsNextPlace}

-- ---- places rise
module _ {X : Type 0} (t : X → Bool) where
  not_below : (xs : List X) (k m j d : ℕ) → m ≤ k → j < length (places_from t k xs) → m ≤ get_or (places_from t k xs) j d
  not_below [] k m j d le lt = absurd (omega arith)
  not_below (x ∷ xs) k m j d le lt = go (t x) (λ i. not_below xs (k + 1) m i d (omega arith)) j lt
    where
      go : (b : Bool) → ((i : ℕ) → i < length (places_from t (k + 1) xs) → m ≤ get_or (places_from t (k + 1) xs) i d) → (j : ℕ)
          → j < length (cond b (k ∷ places_from t (k + 1) xs) (places_from t (k + 1) xs))
          → m ≤ get_or (cond b (k ∷ places_from t (k + 1) xs) (places_from t (k + 1) xs)) j d
      go true rest zero lt = le
      go true rest (suc j) lt = rest j (omega arith)
      go false rest j lt = rest j lt

  -- those below a place stand first
  lesser_first : (n : ℕ) (xs : List X) (k : ℕ) → IsPartitionedBy (λ p. ltb p n) (places_from t k xs)
  lesser_first n [] k = λ i j d le lt h. absurd (omega arith)
  lesser_first n (x ∷ xs) k = go (t x) (lesser_first n xs (k + 1)) (λ j d lt. not_below xs (k + 1) (k + 1) j d (omega arith) lt)
    where
      go : (b : Bool) → IsPartitionedBy (λ p. ltb p n) (places_from t (k + 1) xs)
          → ((j d : ℕ) → j < length (places_from t (k + 1) xs) → k + 1 ≤ get_or (places_from t (k + 1) xs) j d)
          → IsPartitionedBy (λ p. ltb p n) (cond b (k ∷ places_from t (k + 1) xs) (places_from t (k + 1) xs))
      go false rest above i j d le lt h = rest i j d le lt h
      go true rest above zero zero d le lt h = h
      go true rest above zero (suc j) d le lt h = let a = above j d (omega arith) in grind (arith, nat_tests)
      go true rest above (suc i) zero d le lt h = absurd (omega arith)
      go true rest above (suc i) (suc j) d le lt h = rest i j d (omega arith) (omega arith) h

  pub lesser_stand_first : (n : ℕ) (xs : List X) (ps : List ℕ) → ps ≡ places_where t xs → IsPartitionedBy (λ p. ltb p n) ps
  lesser_stand_first n xs ps e = subst (IsPartitionedBy (λ p. ltb p n)) (sym e) (lesser_first n xs 0)

-- ---- the first that is not below, by halving
pub first_at : (n : ℕ) (ps : List ℕ) (i : ℕ) (d : ℕ) → i < length ps → IsPartitionPoint (λ p. ltb p n ≡ true) (λ p. ltb p n ≡ false) ps i
    → Some (get_or ps i d) ≡ first_from n ps
first_at n [] i d lt h = absurd (omega arith)
first_at n (p ∷ ps) zero d lt h = sym (ap (λ b. cond b (first_from n ps) (Some p)) (h.1 0 p (omega arith) (omega arith)))
first_at n (p ∷ ps) (suc i) d lt h = first_at n ps i d (omega arith) (later n p ps i h)
    ∙ sym (ap (λ b. cond b (first_from n ps) (Some p)) (h.0 0 p (omega arith) (omega arith)))
  where
    later : (n p : ℕ) (ps : List ℕ) (i : ℕ) → IsPartitionPoint (λ p. ltb p n ≡ true) (λ p. ltb p n ≡ false) (p ∷ ps) (suc i)
        → IsPartitionPoint (λ p. ltb p n ≡ true) (λ p. ltb p n ≡ false) ps i
    later n p ps i h = ((λ k d le lt. h.0 (suc k) d (omega arith) (omega arith)), (λ k d le lt. h.1 (suc k) d (omega arith) (omega arith)))

pub first_past : (n : ℕ) (ps : List ℕ) (i : ℕ) → length ps ≤ i → IsPartitionPoint (λ p. ltb p n ≡ true) (λ p. ltb p n ≡ false) ps i
    → None ≡ first_from n ps
first_past n [] i le h = refl
first_past n (p ∷ ps) zero le h = absurd (omega arith)
first_past n (p ∷ ps) (suc i) le h = first_past n ps i (omega arith) (later n p ps i h)
    ∙ sym (ap (λ b. cond b (first_from n ps) (Some p)) (h.0 0 p (omega arith) (omega arith)))
  where
    later : (n p : ℕ) (ps : List ℕ) (i : ℕ) → IsPartitionPoint (λ p. ltb p n ≡ true) (λ p. ltb p n ≡ false) (p ∷ ps) (suc i)
        → IsPartitionPoint (λ p. ltb p n ≡ true) (λ p. ltb p n ≡ false) ps i
    later n p ps i h = ((λ k d le lt. h.0 (suc k) d (omega arith) (omega arith)), (λ k d le lt. h.1 (suc k) d (omega arith) (omega arith)))

-- ---- the next place
-- the elements are counted from k on
module _ (t : LinearForm → Bool) where
  abbrev IsNextFrom : List LinearForm → ℕ → ℕ → Option ℕ → Type 0
  IsNextFrom Es k i None = (j : ℕ) → i ≤ k + j → j < length Es → t (get_or Es j no_form) ≡ false
  IsNextFrom Es k i (Some p) = (i ≤ p) × (k ≤ p) × (p < k + length Es) × ((j : ℕ) → i ≤ k + j → k + j < p → t (get_or Es j no_form) ≡ false)

  next_later : (E : LinearForm) (Es : List LinearForm) (k i : ℕ) (found : Option ℕ) → (i ≤ k → t E ≡ false) → IsNextFrom Es (k + 1) i found
      → IsNextFrom (E ∷ Es) k i found
  next_later E Es k i None here h = behind
    where
      behind : (j : ℕ) → i ≤ k + j → j < length (E ∷ Es) → t (get_or (E ∷ Es) j no_form) ≡ false
      behind zero le lt = here (omega arith)
      behind (suc j) le lt = h j (omega arith) (omega arith)
  next_later E Es k i (Some p) here h = (h.0, (let l = h.1 in omega arith), (let l = h.2 in omega arith), between)
    where
      between : (j : ℕ) → i ≤ k + j → k + j < p → t (get_or (E ∷ Es) j no_form) ≡ false
      between zero le lt = here (omega arith)
      between (suc j) le lt = h.3 j (omega arith) (omega arith)

  next_from : (Es : List LinearForm) (k i : ℕ) → IsNextFrom Es k i (first_from i (places_from t k Es))
  next_from [] k i = λ j le lt. absurd (omega arith)
  next_from (E ∷ Es) k i = go (t E) refl (next_from Es (k + 1) i)
    where
      first : (c : Bool) → ltb k i ≡ c → t E ≡ true → IsNextFrom Es (k + 1) i (first_from i (places_from t (k + 1) Es))
          → IsNextFrom (E ∷ Es) k i (cond c (first_from i (places_from t (k + 1) Es)) (Some k))
      first true e is rest = next_later E Es k i _ (λ le. absurd (let lt : k < i = grind (arith, nat_tests) in omega arith)) rest
      first false e is rest = (grind (arith, nat_tests), omega arith, omega arith, λ j le lt. absurd (omega arith))

      go : (b : Bool) → t E ≡ b → IsNextFrom Es (k + 1) i (first_from i (places_from t (k + 1) Es))
          → IsNextFrom (E ∷ Es) k i (first_from i (cond b (k ∷ places_from t (k + 1) Es) (places_from t (k + 1) Es)))
      go true is rest = first (ltb k i) refl is rest
      go false is rest = next_later E Es k i _ (λ le. is) rest

  from_start : (Es : List LinearForm) (i : ℕ) (found : Option ℕ) → IsNextFrom Es 0 i found → IsNextPlace t Es i found
  from_start Es i None h = λ j le lt. h j (omega arith) lt
  from_start Es i (Some p) h = (h.0, (let l = h.2 in omega arith), λ j le lt. h.3 j (omega arith) (omega arith))

  pub next_is_first : (Es : List LinearForm) (i : ℕ) (ps : List ℕ) (found : Option ℕ) → ps ≡ places_where t Es → found ≡ first_from i ps
      → IsNextPlace t Es i found
  next_is_first Es i ps found e is = subst (IsNextPlace t Es i) (sym (is ∙ ap (first_from i) e)) (from_start Es i _ (next_from Es 0 i))
