-- Jets one after the other by their numbers.
use Rattle.std.specs.Prelude.{◌≡◌, ℕ, suc, ◌+◌, ◌<◌, ◌≤◌, Bool, true, false, List, [], ◌∷◌, ◌++◌, map, length, take, All, ◌⊎◌, ltb}
use Rattle.std.proofs.Common.{refl, sym, ap, subst, ◌∙◌, arith, ltb-true, ltb-false, inl, inr, get_or}
use Rattle.std.specs.List.{range_with_len}
use Rattle.std.proofs.lemmas.List.{map_push, length_push, get_or_push, get_or_append_left, get_or-map, length-map, length-take-le}
use Rattle.std.proofs.lemmas.List.FromFn.{map-range_with_len_more, length-range_with_len, get_or-range_with_len}
use Rattle.lie_math.specs.Counts.{order}
use Rattle.lie_geometry.specs.Coordinates.{Space, Coordinate, IsCoordinate, order_of, jets_below, number, coordinates_up_to, coordinate}
use Rattle.lie_geometry.proofs.Numbers.{coordinate_is, coordinate-number, count_rises}
use Rattle.lie_geometry.proofs.NumberOrder.{order_below}
use Rattle.lie_jet.specs.Jets.{coordinate_of, IsJet, IsSmall}
use Rattle.lie_jet.specs.declared.jet.Jet.{Jet}
use Rattle.lie_jet.proofs.JetNumbers.{length_cut}
use Rattle.lie_jet.specs.JetLists.{AreJetsUpTo, AreValuesUpTo, AreFirstValues, HoldsUpTo, ComesFirst}
use Rattle.lie_jet.proofs.JetsBelow.{z_count}

abbrev pub numbers_of : Space → List Jet → List ℕ
numbers_of S js = map (λ j. number S (coordinate_of S j)) js

range_more : (a n : ℕ) → range_with_len a (n + 1) ≡ range_with_len a n ++ (a + n) ∷ []
range_more a n = sym (same (range_with_len a (n + 1))) ∙ map-range_with_len_more (λ k. k) a n (a + n) refl ∙ ap (λ xs. xs ++ (a + n) ∷ []) (same (range_with_len a n))
  where
    same : (xs : List ℕ) → map (λ (k : ℕ). k) xs ≡ xs
    same [] = refl
    same (x ∷ xs) = ap (λ ys. x ∷ ys) (same xs)

-- one more at the end of numbers from a on
pub range_push : (a : ℕ) (xs : List Jet) (j : Jet) (f : Jet → ℕ) → map f xs ≡ range_with_len a (length xs) → f j ≡ a + length xs → map f (xs ++ j ∷ []) ≡ range_with_len a (length (xs ++ j ∷ []))
range_push a xs j f e h = map_push f xs j ∙ ap (λ ys. ys ++ f j ∷ []) e ∙ ap (λ k. range_with_len a (length xs) ++ k ∷ []) h ∙ sym (range_more a (length xs)) ∙ ap (range_with_len a) (sym (length_push xs j))

module _ (S : Space) where
  pub cut : (n : ℕ) (j : Jet) → IsJet S n j → length (take S.p j.counts) ≡ S.p
  cut n j is = length_cut S.p j.counts is.four is.space.few_p

  pub is_coordinate : (n : ℕ) (j : Jet) → IsJet S n j → IsCoordinate S (coordinate_of S j)
  is_coordinate n j is = (is.dependent, cut n j is)

  pub at_number : (n : ℕ) (j : Jet) → IsJet S n j → coordinate S (number S (coordinate_of S j)) ≡ coordinate_of S j
  at_number n j is = coordinate-number S is.space.some_p is.space.some_q (coordinate_of S j) (is_coordinate n j is)

module _ (S : Space) (small : IsSmall S) where
  pub number_is : (w : ℕ) (j : Jet) → coordinate S w ≡ coordinate_of S j → number S (coordinate_of S j) ≡ w
  number_is w j e = ap (number S) (sym e) ∙ (coordinate_is S small.some_p small.some_q w).1

  -- a jet of order at most n has a low number
  pub low_number : (n w : ℕ) (j : Jet) → coordinate S w ≡ coordinate_of S j → order (take S.p j.counts) ≤ n → w < coordinates_up_to S n
  low_number n w j e h = (order_below S small.some_p small.some_q w n).0 (subst (λ (c : Coordinate). order_of c ≤ n) (sym e) h)

  -- and no other
  pub high_number : (n w : ℕ) (j : Jet) → coordinate S w ≡ coordinate_of S j → n < order (take S.p j.counts) → coordinates_up_to S n ≤ w
  high_number n w j e h = go (ltb w (coordinates_up_to S n)) refl
    where
      go : (t : Bool) → ltb w (coordinates_up_to S n) ≡ t → coordinates_up_to S n ≤ w
      go true f = absurd (apart (subst (λ (c : Coordinate). order_of c ≤ n) e ((order_below S small.some_p small.some_q w n).1 (ltb-true w _ f))))
        where
          apart : order (take S.p j.counts) ≤ n → ⊥
          apart k = omega arith
      go false f = ltb-false w _ f

  pub all_numbered : (n w : ℕ) (js : List Jet) → All (IsJet S n) js → numbers_of S js ≡ range_with_len S.p (length js) → w ≡ S.p + length js → w ≡ coordinates_up_to S n → AreJetsUpTo S n js
  all_numbered n w js h e l k = record { jets = h; numbers = e ∙ ap (range_with_len S.p) (left S.p (length js) (jets_below S (suc n)) (sym l ∙ k)) }
    where
      left : (p a b : ℕ) → p + a ≡ p + b → a ≡ b
      left p a b h = omega arith

  pub lower_order : (n m : ℕ) (j : Jet) → IsJet S m j → order (take S.p j.counts) ≤ n → IsJet S n j
  lower_order n m j is h = record { space = is.space; dependent = is.dependent; four = is.four; rest = is.rest; low = h }

  -- past the last of them
  pub past_end : (n w : ℕ) → n ≤ 12 → S.p ≤ w → w ≤ coordinates_up_to S n → (w < S.p) ⊎ (coordinates_up_to S 12 ≤ w) → w ≡ coordinates_up_to S n
  past_end n w m h k (inl l) = absurd (omega arith)
  past_end n w m h k (inr l) = let g : coordinates_up_to S n ≤ coordinates_up_to S 12 = count_rises S small.some_p small.some_q n 12 m in between _ _ _ k l g
    where
      between : (w a b : ℕ) → w ≤ a → b ≤ w → a ≤ b → w ≡ a
      between w a b h k l = omega arith

  pub end_found : (n w : ℕ) (j : Jet) → coordinate S w ≡ coordinate_of S j → n < order (take S.p j.counts) → w ≤ coordinates_up_to S n → w ≡ coordinates_up_to S n
  end_found n w j e h k = between _ _ (high_number n w j e h) k
    where
      between : (w a : ℕ) → a ≤ w → w ≤ a → w ≡ a
      between w a h k = omega arith

-- as many values as jets
pub values_counted : {A : Type 0} (made : List (Jet × A)) (js : List Jet) (i : ℕ) → map (λ v. v.0) made ≡ take i js → i < length js → length made ≡ i
values_counted made js i e h = sym (length-map made (λ v. v.0)) ∙ ap length e ∙ length-take-le i js (omega arith)

-- ---- values at the jets, one after the other
module _ (S : Space) (n : ℕ) (js : List Jet) (are : AreJetsUpTo S n js) where
  pub jets_count : length js ≡ jets_below S (suc n)
  jets_count = sym (length-map js (λ j. number S (coordinate_of S j))) ∙ ap length are.numbers ∙ length-range_with_len S.p (jets_below S (suc n))

  pub number_at : (i : ℕ) (d : Jet) → i < length js → number S (coordinate_of S (get_or js i d)) ≡ S.p + i
  number_at i d h =
      sym (get_or-map (λ j. number S (coordinate_of S j)) js i d 0 h) ∙ ap (λ xs. get_or xs i 0) are.numbers ∙ get_or-range_with_len S.p (jets_below S (suc n)) i 0 (let e = jets_count in omega arith)

  pub coordinate_at : (i : ℕ) (d : Jet) → i < length js → coordinate S (S.p + i) ≡ coordinate_of S (get_or js i d)
  coordinate_at i d h = ap (coordinate S) (sym (number_at i d h)) ∙ at_number S n (get_or js i d) (are.jets i d h)

  module _ {A : Type 0} (f : Coordinate → A) where
    pub values_more : (vs ws : List (Jet × A)) (i : ℕ) (d : Jet) (v : Jet × A) → AreFirstValues S f vs → length vs ≡ i → i < length js → v.1 ≡ f (coordinate_of S (get_or js i d)) → ws ≡ vs ++ v ∷ [] → AreFirstValues S f ws
    values_more vs ws i d v first l h e p = subst (AreFirstValues S f) (sym p) (record { at = λ k x low. go k x low (ltb k i) refl })
      where
        last : (k : ℕ) → k < length (vs ++ v ∷ []) → i ≤ k → i ≡ k
        last k low g = let m : length (vs ++ v ∷ []) ≡ length vs + 1 = length_push vs v in omega arith

        go : (k : ℕ) (x : Jet × A) → k < length (vs ++ v ∷ []) → (t : Bool) → ltb k i ≡ t → (get_or (vs ++ v ∷ []) k x).1 ≡ f (coordinate S (S.p + k))
        go k x low true q = let g : k < i = ltb-true k i q in ap (λ (y : Jet × A). y.1) (get_or_append_left vs (v ∷ []) x k (omega arith)) ∙ first.at k x (omega arith)
        go k x low false q =
            let g : i ≡ k = last k low (ltb-false k i q) in
            ap (λ (y : Jet × A). y.1) (get_or_push vs v x k (l ∙ g)) ∙ e ∙ ap f (sym (coordinate_at i d h)) ∙ ap (λ m. f (coordinate S (S.p + m))) g

    pub values_all : (vs : List (Jet × A)) → map (λ v. v.0) vs ≡ js → AreFirstValues S f vs → AreValuesUpTo S n f vs
    values_all vs e first = record { jets = subst (AreJetsUpTo S n) (sym e) are; values = λ k d h. here k d h }
      where
        here : (k : ℕ) (d : Jet × A) → k < length vs → (get_or vs k d).1 ≡ f (coordinate_of S (get_or vs k d).0)
        here k d h =
            let inside : k < length js = subst (λ (xs : List Jet). k < length xs) e (subst (λ m. k < m) (sym (length-map vs (λ (v : Jet × A). v.0))) h) in
            let read : get_or js k d.0 ≡ (get_or vs k d).0 = ap (λ (xs : List Jet). get_or xs k d.0) (sym e) ∙ get_or-map (λ (v : Jet × A). v.0) vs k d d.0 h in
            first.at k d h ∙ ap f (coordinate_at k d.0 inside ∙ ap (coordinate_of S) read)

  -- what holds at each
  pub holds_more : (Good : Coordinate → Type 0) (i : ℕ) (d : Jet) → ((w : ℕ) → S.p ≤ w → w < S.p + i → Good (coordinate S w)) → i < length js → Good (coordinate_of S (get_or js i d)) → (w : ℕ) → S.p ≤ w → w < S.p + (i + 1) → Good (coordinate S w)
  holds_more Good i d h l here w low high = go (ltb w (S.p + i)) refl
    where
      go : (t : Bool) → ltb w (S.p + i) ≡ t → Good (coordinate S w)
      go true e = h w low (ltb-true w (S.p + i) e)
      go false e = subst (λ m. Good (coordinate S m)) (last (ltb-false w (S.p + i) e)) (subst Good (sym (coordinate_at i d l)) here)
        where
          last : S.p + i ≤ w → S.p + i ≡ w
          last g = omega arith

  pub fails_first : (Good Bad : Coordinate → Type 0) (i : ℕ) (d : Jet) → ((w : ℕ) → S.p ≤ w → w < S.p + i → Good (coordinate S w)) → i < length js → Bad (coordinate_of S (get_or js i d)) → ComesFirst S n Good Bad
  fails_first Good Bad i d h l here = record { place = S.p + i; after = omega arith; within = low (jets_count); before = h; here = subst Bad (sym (coordinate_at i d l)) here }
    where
      low : length js ≡ jets_below S (suc n) → S.p + i < coordinates_up_to S n
      low e = omega arith

  pub holds_all : (Good : Coordinate → Type 0) (i : ℕ) → ((w : ℕ) → S.p ≤ w → w < S.p + i → Good (coordinate S w)) → length js ≤ i → HoldsUpTo S n Good
  holds_all Good i h l w low high = h w low (less jets_count)
    where
      less : length js ≡ jets_below S (suc n) → w < S.p + i
      less e = omega arith

-- where everything is bad, so is the first jet
pub fails_at_once : (S : Space) (n : ℕ) (Good Bad : Coordinate → Type 0) → IsSmall S → ((c : Coordinate) → Bad c) → ComesFirst S n Good Bad
fails_at_once S n Good Bad small bad = record { place = S.p; after = omega arith; within = (let h : S.p + S.q ≤ coordinates_up_to S n = z_count S small.some_p small.some_q n in let g = small.some_q in omega arith); before = λ w l h. absurd (omega arith); here = bad _ }
