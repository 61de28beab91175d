-- Lists of places after elements were put in, taken out or changed.
use Rattle.std.specs.Prelude.{◌≡◌, ℕ, zero, suc, ◌+◌, ◌-◌, ◌<◌, ◌≤◌, ◌^◌, Bool, true, false, cond, ltb, eqb, not, min, List, [], ◌∷◌, ◌++◌, map, filter, length, get_or, take, drop, remove, slice_set}
use Rattle.std.proofs.Common.{refl, sym, ap, subst, ◌∙◌, arith, append_assoc}
use Rattle.std.specs.List.{insert}
use Rattle.std.proofs.lemmas.List.{take_more, drop_more}
use Rattle.std.proofs.lemmas.Bool.Decides.{nat_tests}
use Rattle.lie_tables.specs.Places.{places_from, placed, lifted, lowered, opened, closed}

-- ---- tests of places
lifted_below : (i p : ℕ) → p < i → lifted i p ≡ p
lifted_below i p lt = let e : ltb p i ≡ true = grind (arith, nat_tests) in ap (λ b. cond b p (min (p + 1) (2 ^ 64 - 1))) e

lifted_above : (i p : ℕ) → i ≤ p → p < 2 ^ 64 - 1 → lifted i p ≡ p + 1
lifted_above i p le lt =
    let e : ltb p i ≡ false = grind (arith, nat_tests) in
    let m : min (p + 1) (2 ^ 64 - 1) ≡ p + 1 = omega arith in ap (λ b. cond b p (min (p + 1) (2 ^ 64 - 1))) e ∙ m

lowered_below : (i p : ℕ) → p ≤ i → lowered i p ≡ p
lowered_below i p le = let e : ltb i p ≡ false = grind (arith, nat_tests) in ap (λ b. cond b (p - 1) p) e

lowered_above : (i p q : ℕ) → i ≤ q → p ≡ q + 1 → lowered i p ≡ q
lowered_above i p q le f =
    let e : ltb i p ≡ true = grind (arith, nat_tests) in
    let m : p - 1 ≡ q = omega arith in ap (λ b. cond b (p - 1) p) e ∙ m

same_place : (k : ℕ) → eqb k k ≡ true
same_place k = grind (arith, nat_tests)

other_place : (k m : ℕ) → k < m → eqb m k ≡ false
other_place k m lt = grind (arith, nat_tests)

below_place : (k m : ℕ) → k < m → ltb k m ≡ true
below_place k m lt = grind (arith, nat_tests)

above_place : (k m : ℕ) → k ≤ m → ltb m k ≡ false
above_place k m lt = grind (arith, nat_tests)

-- ---- one place of a list
module _ {X : Type 0} (t : X → Bool) where
  -- all places are behind
  lifted_all : (xs : List X) (k i : ℕ) → i ≤ k → k + length xs < 2 ^ 64 - 1 → opened i (places_from t k xs) ≡ places_from t (k + 1) xs
  lifted_all [] k i le lt = refl
  lifted_all (x ∷ xs) k i le lt = go (t x) (lifted_all xs (k + 1) i (omega arith) (omega arith))
    where
      go : (b : Bool) → opened i (places_from t (k + 1) xs) ≡ places_from t (k + 1 + 1) xs → opened i (cond b (k ∷ places_from t (k + 1) xs) (places_from t (k + 1) xs))
          ≡ cond b ((k + 1) ∷ places_from t (k + 1 + 1) xs) (places_from t (k + 1 + 1) xs)
      go true rest = λ j. lifted_above i k le (omega arith) j ∷ rest j
      go false rest = rest

  lowered_all : (xs : List X) (k m i : ℕ) → i ≤ k → m ≡ k + 1 → closed i (places_from t m xs) ≡ places_from t k xs
  lowered_all [] k m i le e = refl
  lowered_all (x ∷ xs) k m i le e = go (t x) (lowered_all xs (k + 1) (m + 1) i (omega arith) (omega arith))
    where
      go : (b : Bool) → closed i (places_from t (m + 1) xs) ≡ places_from t (k + 1) xs → closed i (cond b (m ∷ places_from t (m + 1) xs) (places_from t (m + 1) xs))
          ≡ cond b (k ∷ places_from t (k + 1) xs) (places_from t (k + 1) xs)
      go true rest = ap (λ c. map (lowered i) (cond (not c) (m ∷ filter (λ p. not (eqb p i)) (places_from t (m + 1) xs))
          (filter (λ p. not (eqb p i)) (places_from t (m + 1) xs)))) (other_place i m (omega arith))
          ∙ (λ j. lowered_above i m k le e j ∷ rest j)
      go false rest = rest

  placed_before : (xs : List X) (k m : ℕ) → k < m → placed k (places_from t m xs) ≡ k ∷ places_from t m xs
  placed_before [] k m lt = refl
  placed_before (x ∷ xs) k m lt = go (t x) (placed_before xs k (m + 1) (omega arith))
    where
      go : (b : Bool) → placed k (places_from t (m + 1) xs) ≡ k ∷ places_from t (m + 1) xs → placed k (cond b (m ∷ places_from t (m + 1) xs) (places_from t (m + 1) xs))
          ≡ k ∷ cond b (m ∷ places_from t (m + 1) xs) (places_from t (m + 1) xs)
      go true rest = λ j. cond (above_place k m (omega arith) j) (m ∷ placed k (places_from t (m + 1) xs))
          (cond (other_place k m lt j) (m ∷ places_from t (m + 1) xs) (k ∷ m ∷ places_from t (m + 1) xs))
      go false rest = rest

-- ---- an element more or less
module _ {X : Type 0} (t : X → Bool) where
  opened_from : (y : X) → t y ≡ false → (xs : List X) (i k n : ℕ) → n ≡ k + i → i ≤ length xs → k + length xs < 2 ^ 64 - 1
      → opened n (places_from t k xs) ≡ places_from t k (insert xs i y)
  opened_from y none xs zero k n e le lt = lifted_all t xs k n (omega arith) lt
      ∙ sym (ap (λ b. cond b (k ∷ places_from t (k + 1) xs) (places_from t (k + 1) xs)) none)
  opened_from y none [] (suc i) k n e le lt = absurd (omega arith)
  opened_from y none (x ∷ xs) (suc i) k n e le lt = go (t x) (opened_from y none xs i (k + 1) n (omega arith) (omega arith) (omega arith))
    where
      go : (b : Bool) → opened n (places_from t (k + 1) xs) ≡ places_from t (k + 1) (insert xs i y) → opened n (cond b (k ∷ places_from t (k + 1) xs) (places_from t (k + 1) xs))
          ≡ cond b (k ∷ places_from t (k + 1) (insert xs i y)) (places_from t (k + 1) (insert xs i y))
      go true rest = λ j. lifted_below n k (omega arith) j ∷ rest j
      go false rest = rest

  closed_from : (xs : List X) (i k n : ℕ) → n ≡ k + i → i < length xs → closed n (places_from t k xs) ≡ places_from t k (remove xs i)
  closed_from [] i k n e lt = absurd (omega arith)
  closed_from (x ∷ xs) zero k n e lt = go (t x) (lowered_all t xs k (k + 1) n (omega arith) refl)
    where
      at : eqb k n ≡ true
      at = let f : k ≡ n = omega arith in subst (λ m. eqb k m ≡ true) f (same_place k)

      go : (b : Bool) → closed n (places_from t (k + 1) xs) ≡ places_from t k xs → closed n (cond b (k ∷ places_from t (k + 1) xs) (places_from t (k + 1) xs)) ≡ places_from t k xs
      go true rest = ap (λ c. map (lowered n) (cond (not c) (k ∷ filter (λ p. not (eqb p n)) (places_from t (k + 1) xs))
          (filter (λ p. not (eqb p n)) (places_from t (k + 1) xs)))) at ∙ rest
      go false rest = rest
  closed_from (x ∷ xs) (suc i) k n e lt = go (t x) (closed_from xs i (k + 1) n (omega arith) (omega arith))
    where
      off : eqb k n ≡ false
      off = grind (arith, nat_tests)

      go : (b : Bool) → closed n (places_from t (k + 1) xs) ≡ places_from t (k + 1) (remove xs i) → closed n (cond b (k ∷ places_from t (k + 1) xs) (places_from t (k + 1) xs))
          ≡ cond b (k ∷ places_from t (k + 1) (remove xs i)) (places_from t (k + 1) (remove xs i))
      go true rest = ap (λ c. map (lowered n) (cond (not c) (k ∷ filter (λ p. not (eqb p n)) (places_from t (k + 1) xs))
          (filter (λ p. not (eqb p n)) (places_from t (k + 1) xs)))) off
          ∙ (λ j. lowered_below n k (omega arith) j ∷ rest j)
      go false rest = rest

  placed_from : (y : X) → t y ≡ true → (xs : List X) (i k n : ℕ) → n ≡ k + i → i < length xs
      → placed n (places_from t k xs) ≡ places_from t k (slice_set xs i y)
  placed_from y is [] i k n e lt = absurd (omega arith)
  placed_from y is (x ∷ xs) zero k n e lt = ap (λ m. placed m (places_from t k (x ∷ xs))) at ∙ go (t x)
      ∙ sym (ap (λ b. cond b (k ∷ places_from t (k + 1) xs) (places_from t (k + 1) xs)) is)
    where
      at : n ≡ k
      at = omega arith

      go : (b : Bool) → placed k (cond b (k ∷ places_from t (k + 1) xs) (places_from t (k + 1) xs)) ≡ k ∷ places_from t (k + 1) xs
      go true = let f : k ≤ k = omega arith in λ j. cond (above_place k k f j) (k ∷ placed k (places_from t (k + 1) xs))
          (cond (same_place k j) (k ∷ places_from t (k + 1) xs) (k ∷ k ∷ places_from t (k + 1) xs))
      go false = placed_before t xs k (k + 1) (omega arith)
  placed_from y is (x ∷ xs) (suc i) k n e lt = go (t x) (placed_from y is xs i (k + 1) n (omega arith) (omega arith))
    where
      go : (b : Bool) → placed n (places_from t (k + 1) xs) ≡ places_from t (k + 1) (slice_set xs i y) → placed n (cond b (k ∷ places_from t (k + 1) xs) (places_from t (k + 1) xs))
          ≡ cond b (k ∷ places_from t (k + 1) (slice_set xs i y)) (places_from t (k + 1) (slice_set xs i y))
      go true rest = let f : k < n = omega arith in ap (λ c. cond c (k ∷ placed n (places_from t (k + 1) xs))
          (cond (eqb k n) (k ∷ places_from t (k + 1) xs) (n ∷ k ∷ places_from t (k + 1) xs))) (below_place k n f)
          ∙ ap (λ (ps : List ℕ). k ∷ ps) rest
      go false rest = rest

  kept_from : (y d : X) (xs : List X) (i k : ℕ) → i < length xs → t y ≡ t (get_or xs i d)
      → places_from t k (slice_set xs i y) ≡ places_from t k xs
  kept_from y d [] i k lt e = absurd (omega arith)
  kept_from y d (x ∷ xs) zero k lt e = ap (λ b. cond b (k ∷ places_from t (k + 1) xs) (places_from t (k + 1) xs)) e
  kept_from y d (x ∷ xs) (suc i) k lt e = let rest = kept_from y d xs i (k + 1) (omega arith) e in
      λ j. cond (t x) (k ∷ rest j) (rest j)

  -- ---- from the start
  pub opened_insert : (y : X) (xs : List X) (i : ℕ) → t y ≡ false → i ≤ length xs → length xs < 2 ^ 64 - 1
      → opened i (places_from t 0 xs) ≡ places_from t 0 (insert xs i y)
  opened_insert y xs i none le lt = opened_from y none xs i 0 i (omega arith) le (omega arith)

  pub closed_remove : (xs : List X) (i : ℕ) → i < length xs → closed i (places_from t 0 xs) ≡ places_from t 0 (remove xs i)
  closed_remove xs i lt = closed_from xs i 0 i (omega arith) lt

  pub placed_set : (y : X) (xs : List X) (i : ℕ) → t y ≡ true → i < length xs
      → placed i (places_from t 0 xs) ≡ places_from t 0 (slice_set xs i y)
  placed_set y xs i is lt = placed_from y is xs i 0 i (omega arith) lt

  pub kept_set : (y d : X) (xs : List X) (i : ℕ) → i < length xs → t y ≡ t (get_or xs i d)
      → places_from t 0 (slice_set xs i y) ≡ places_from t 0 xs
  kept_set y d xs i lt e = kept_from y d xs i 0 lt e

-- ---- the search of a place
pub found_more : (list : List ℕ) (at place : ℕ) → at < length list → get_or list at 0 < place
    → take at list ++ placed place (drop at list) ≡ take (at + 1) list ++ placed place (drop (at + 1) list)
found_more list at place lt less =
    let e = drop_more list at 0 lt in
    let f = take_more list at 0 lt in
    let x = get_or list at 0 in
    let b = below_place x place less in
    ap (λ ps. take at list ++ placed place ps) e
    ∙ ap (λ c. take at list ++ cond c (x ∷ placed place (drop (at + 1) list)) (cond (eqb x place) (x ∷ drop (at + 1) list)
    (place ∷ x ∷ drop (at + 1) list))) b
    ∙ sym (append_assoc (take at list) (x ∷ []) (placed place (drop (at + 1) list)))
    ∙ ap (λ front. front ++ placed place (drop (at + 1) list)) (sym f)
