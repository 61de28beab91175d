-- The numbers of the coordinates: each number is that of one coordinate, and each coordinate has one.
use Rattle.std.specs.Prelude.{◌≡◌, ℕ, zero, suc, ◌+◌, ◌*◌, ◌-◌, ◌<◌, ◌≤◌, Bool, true, false, cond, List, [], ◌∷◌, length, eqb, ltb, leb}
use Rattle.std.proofs.Common.{refl, sym, ap, ap₂, subst, ◌∙◌, arith, ltb-true, ltb-false, lt-ltb, le-ltb, eqb-true}
use Rattle.std.proofs.lemmas.Bool.{leb-true, leb-false}
use Rattle.lie_math.specs.Counts.{order}
use Rattle.lie_geometry.specs.Coordinates.{Space, Coordinate, independent, jet, IsCoordinate, sum_below, ways, rank, jets_below, number, coordinates_up_to, seek, unrank, nth_of_order, coordinate}

-- the r-th jet
abbrev pub nth_jet : Space → ℕ → Coordinate
nth_jet S r = nth_of_order S (seek (jets_below S) r r) (r - jets_below S (seek (jets_below S) r r))

abbrev pub Rises : (ℕ → ℕ) → Type 0
Rises f = (m n : ℕ) → m ≤ n → f m ≤ f n

by_steps : (f : ℕ → ℕ) → ((n : ℕ) → f n ≤ f (suc n)) → Rises f
by_steps f step m zero h = subst (λ k. f k ≤ f 0) (none m h) (itself (f 0))
  where
    none : (m : ℕ) → m ≤ 0 → 0 ≡ m
    none m h = omega arith

    itself : (n : ℕ) → n ≤ n
    itself n = omega arith
by_steps f step m (suc n) h = go (leb m n) refl (by_steps f step m n)
  where
    go : (t : Bool) → leb m n ≡ t → (m ≤ n → f m ≤ f n) → f m ≤ f (suc n)
    go true e ih = let a : f m ≤ f n = ih (leb-true m n e) in let b : f n ≤ f (suc n) = step n in omega arith
    go false e ih = subst (λ k. f k ≤ f (suc n)) (equal (leb-false m n e)) (itself (f (suc n)))
      where
        equal : n < m → suc n ≡ m
        equal g = omega arith

        itself : (n : ℕ) → n ≤ n
        itself n = omega arith

pub sum_rises : (f : ℕ → ℕ) → Rises (sum_below f)
sum_rises f = by_steps (sum_below f) (λ n. more (sum_below f n) (f n))
  where
    more : (a b : ℕ) → a ≤ a + b
    more a b = omega arith

record Found (f : ℕ → ℕ) (r n s : ℕ) : Type 0 where
  low : f s ≤ r
  high : r < f (suc s)
  within : s ≤ n

found : (f : ℕ → ℕ) (r n : ℕ) → f 0 ≤ r → r < f (suc n) → Found f r n (seek f r n)
found f r zero h k = record { low = h; high = k; within = omega arith }
found f r (suc n) h k = go (leb (f (suc n)) r) refl (found f r n h)
  where
    go : (t : Bool) → leb (f (suc n)) r ≡ t → (r < f (suc n) → Found f r n (seek f r n)) → Found f r (suc n) (cond t (suc n) (seek f r n))
    go true e ih = record { low = leb-true (f (suc n)) r e; high = k; within = omega arith }
    go false e ih =
        let x = ih (leb-false (f (suc n)) r e) in
        record { low = x.low; high = x.high; within = weaker x.within }
      where
        weaker : {s : ℕ} → s ≤ n → s ≤ suc n
        weaker h = omega arith

same_place : (f : ℕ → ℕ) → Rises f → (r s t : ℕ) → f s ≤ r → r < f (suc s) → f t ≤ r → r < f (suc t) → s ≡ t
same_place f rises r s t a b c d = equal (not_less s t b c) (not_less t s d a)
  where
    equal : (ltb s t ≡ false) → (ltb t s ≡ false) → s ≡ t
    equal h k = let x : t ≤ s = ltb-false s t h in let y : s ≤ t = ltb-false t s k in omega arith

    not_less : (s t : ℕ) → r < f (suc s) → f t ≤ r → ltb s t ≡ false
    not_less s t b c = go (ltb s t) refl
      where
        go : (z : Bool) → ltb s t ≡ z → z ≡ false
        go true e = absurd (let g : f (suc s) ≤ f t = rises (suc s) t (next (ltb-true s t e)) in omega arith)
          where
            next : s < t → suc s ≤ t
            next h = omega arith
        go false e = refl

-- ---- the lists of counts
pub unranked : (p n r : ℕ) → r < ways p n → (length (unrank p n r) ≡ p) × (order (unrank p n r) ≡ n) × (rank (unrank p n r) ≡ r)
unranked zero n r h = let z = zeros (eqb n 0) refl h in (refl, z.0, z.1)
  where
    zeros : (t : Bool) → eqb n 0 ≡ t → r < cond t 1 0 → (0 ≡ n) × (0 ≡ r)
    zeros true e h = (sym (eqb-true n 0 e), omega arith)
    zeros false e h = absurd (omega arith)
unranked (suc p) n r h =
    let f = sum_below (ways p) in
    let x = found f r n (none r) h in
    let s = seek f r n in
    let y = unranked p s (r - f s) (left x.low x.high) in (
      ap suc y.0,
      ap (λ z. (n - s) + z) y.1 ∙ back x.within,
      ap₂ (λ a b. a + b) (ap₂ (λ l m. sum_below (ways l) m) y.0 y.1) y.2 ∙ whole x.low,
    )
  where
    none : (r : ℕ) → 0 ≤ r
    none r = omega arith

    left : {a b r : ℕ} → a ≤ r → r < a + b → r - a < b
    left h k = omega arith

    back : {s n : ℕ} → s ≤ n → (n - s) + s ≡ n
    back h = omega arith

    whole : {a r : ℕ} → a ≤ r → a + (r - a) ≡ r
    whole h = omega arith

pub ranked : (J : List ℕ) → rank J < ways (length J) (order J)
ranked [] = omega arith
ranked (c ∷ J) =
    let h : rank J < ways (length J) (order J) = ranked J in
    let k : sum_below (ways (length J)) (suc (order J)) ≤ sum_below (ways (length J)) (suc (c + order J)) = sum_rises (ways (length J)) (suc (order J)) (suc (c + order J)) (omega arith) in
    join _ _ _ _ h k
  where
    join : (a b r w : ℕ) → r < w → a + w ≤ b → a + r < b
    join a b r w h k = omega arith

pub unrank-rank : (J : List ℕ) → unrank (length J) (order J) (rank J) ≡ J
unrank-rank [] = refl
unrank-rank (c ∷ J) =
    let f = sum_below (ways (length J)) in
    let n = order J in
    let r = f n + rank J in
    let x = found f r (c + n) (none r) (ranked (c ∷ J)) in
    let same : seek f r (c + n) ≡ n = same_place f (sum_rises (ways (length J))) r (seek f r (c + n)) n x.low x.high (more (f n) (rank J)) (above (f n) _ _ (ranked J)) in
    ap (λ s. ((c + n) - s) ∷ unrank (length J) s (r - f s)) same ∙ ap₂ (λ a b. a ∷ unrank (length J) n b) (off c n) (off_left (f n) (rank J)) ∙ ap (λ K. c ∷ K) (unrank-rank J)
  where
    none : (r : ℕ) → 0 ≤ r
    none r = omega arith

    more : (a b : ℕ) → a ≤ a + b
    more a b = omega arith

    above : (a b c : ℕ) → b < c → a + b < a + c
    above a b c h = omega arith

    off : (c n : ℕ) → (c + n) - n ≡ c
    off c n = omega arith

    off_left : (a b : ℕ) → (a + b) - a ≡ b
    off_left a b = omega arith

-- ---- the jets
pub ways_none : (p : ℕ) → ways p 0 ≡ 1
ways_none zero = refl
ways_none (suc p) = plain (ways p 0) ∙ ways_none p
  where
    plain : (a : ℕ) → 0 + a ≡ a
    plain a = omega arith

pub ways_some : (p n : ℕ) → 0 < p → 0 < ways p n
ways_some zero n h = absurd (omega arith)
ways_some (suc p) n h =
    let a : sum_below (ways p) 1 ≤ sum_below (ways p) (suc n) = sum_rises (ways p) 1 (suc n) (omega arith) in
    let b : ways p 0 ≡ 1 = ways_none p in
    first _ _ a b
  where
    first : (w s : ℕ) → 0 + w ≤ s → w ≡ 1 → 0 < s
    first w s h e = omega arith

sum_grows : (f : ℕ → ℕ) → ((n : ℕ) → 0 < f n) → (n : ℕ) → n ≤ sum_below f n
sum_grows f some zero = omega arith
sum_grows f some (suc n) = step n (sum_below f n) (f n) (sum_grows f some n) (some n)
  where
    step : (n a b : ℕ) → n ≤ a → 0 < b → suc n ≤ a + b
    step n a b h k = omega arith

pub room : (a q w : ℕ) → a < q → a * w + w ≤ q * w
room a q w h =
    let e : q ≡ suc a + (q - suc a) = omega arith in
    let k : q * w ≡ (suc a + (q - suc a)) * w = ap (λ x. x * w) e in
    omega arith

less_of : (a q w r : ℕ) → a * w ≤ r → r < q * w → a < q
less_of a q w r h k = go (ltb a q) refl
  where
    go : (t : Bool) → ltb a q ≡ t → a < q
    go true e = ltb-true a q e
    go false e = absurd (let g : q ≤ a = ltb-false a q e in let f : a ≡ q + (a - q) = omega arith in let m : a * w ≡ (q + (a - q)) * w = ap (λ x. x * w) f in omega arith)

module _ (S : Space) (some_p : 0 < S.p) (some_q : 0 < S.q) where
  jets_rise : Rises (jets_below S)
  jets_rise = by_steps (jets_below S) (λ n. step S.q (sum_below (ways S.p) n) (ways S.p n))
    where
      step : (q a b : ℕ) → q * a ≤ q * (a + b)
      step q a b = omega arith

  nth_is : (n r : ℕ) → r < S.q * ways S.p n → IsCoordinate S (nth_of_order S n r) × (number S (nth_of_order S n r) ≡ S.p + (jets_below S n + r))
  unfolding number
  nth_is n r h =
      let w = ways S.p n in
      let g : ℕ → ℕ = λ a. a * ways S.p n in
      let x = found g r S.q (nothing w r) (beyond S.q w r h) in
      let a = seek g r S.q in
      let y = unranked S.p n (r - a * w) (left a w r x.low x.high) in (
        (less_of a S.q w r x.low h, y.0),
        ap₂ (λ m k. S.p + (jets_below S m + (a * ways S.p m + k))) y.1 y.2 ∙ ap (λ k. S.p + (jets_below S n + k)) (whole x.low),
      )
    where
      nothing : (w r : ℕ) → 0 * w ≤ r
      nothing w r = omega arith

      beyond : (q w r : ℕ) → r < q * w → r < suc q * w
      beyond q w r h = omega arith

      left : (a w r : ℕ) → a * w ≤ r → r < suc a * w → r - a * w < w
      left a w r h k = omega arith

      whole : {a r : ℕ} → a ≤ r → a + (r - a) ≡ r
      whole h = omega arith

  far : (r : ℕ) → r < jets_below S (suc r)
  far r =
      let a : suc r ≤ sum_below (ways S.p) (suc r) = sum_grows (ways S.p) (λ n. ways_some S.p n some_p) (suc r) in
      let b : S.q ≡ suc (S.q - 1) = omega arith in
      let c : S.q * sum_below (ways S.p) (suc r) ≡ suc (S.q - 1) * sum_below (ways S.p) (suc r) = ap (λ x. x * sum_below (ways S.p) (suc r)) b in
      times (S.q - 1) (sum_below (ways S.p) (suc r)) r _ a c
    where
      times : (q s r t : ℕ) → suc r ≤ s → t ≡ suc q * s → r < t
      times q s r t h e = omega arith

  jet_found : (r : ℕ) → Found (jets_below S) r r (seek (jets_below S) r r)
  jet_found r = found (jets_below S) r r (nothing S.q r) (far r)
    where
      nothing : (q r : ℕ) → q * 0 ≤ r
      nothing q r = omega arith

  jet_is : (r : ℕ) → IsCoordinate S (nth_jet S r) × (number S (nth_jet S r) ≡ S.p + r)
  jet_is r =
      let x = jet_found r in
      let y = nth_is (seek (jets_below S) r r) (r - jets_below S (seek (jets_below S) r r)) (left S.q (sum_below (ways S.p) (seek (jets_below S) r r)) (ways S.p (seek (jets_below S) r r)) r x.low x.high) in
      (y.0, y.1 ∙ ap (λ k. S.p + k) (whole x.low))
    where
      left : (q a b r : ℕ) → q * a ≤ r → r < q * (a + b) → r - q * a < q * b
      left q a b r h k = omega arith

      whole : {a r : ℕ} → a ≤ r → a + (r - a) ≡ r
      whole h = omega arith

  pub coordinate_is : (w : ℕ) → IsCoordinate S (coordinate S w) × (number S (coordinate S w) ≡ w)
  unfolding coordinate number
  coordinate_is w = go (ltb w S.p) refl
    where
      go : (t : Bool) → ltb w S.p ≡ t → IsCoordinate S (cond t (independent w) (nth_jet S (w - S.p))) × (number S (cond t (independent w) (nth_jet S (w - S.p))) ≡ w)
      go true e = (ltb-true w S.p e, refl)
      go false e = let y = jet_is (w - S.p) in (y.0, y.1 ∙ whole (ltb-false w S.p e))
        where
          whole : {a r : ℕ} → a ≤ r → a + (r - a) ≡ r
          whole h = omega arith

  pub coordinate-number : (c : Coordinate) → IsCoordinate S c → coordinate S (number S c) ≡ c
  unfolding coordinate number
  coordinate-number (independent i) h = ap (λ t. cond t (independent i) (nth_jet S (i - S.p))) (lt-ltb i S.p h)
  coordinate-number (jet a J) h =
      let n = order J in
      let w = ways S.p n in
      let k = a * w + rank J in
      let r = jets_below S n + k in
      let small : rank J < w = subst (λ p. rank J < ways p n) h.1 (ranked J) in
      let x = jet_found r in
      let inside : k < S.q * w = before a S.q w (rank J) (room a S.q w h.0) small in
      let same : seek (jets_below S) r r ≡ n = same_place (jets_below S) jets_rise r (seek (jets_below S) r r) n x.low x.high (more (jets_below S n) k) (within S.q (sum_below (ways S.p) n) w k inside) in
      let g : ℕ → ℕ = λ b. b * ways S.p n in
      let y = found g k S.q (nothing w k) (beyond S.q w k inside) in
      let same_a : seek g k S.q ≡ a = same_place g (multiples w) k (seek g k S.q) a y.low y.high (more (a * w) (rank J)) (next a w (rank J) small) in
      ap (λ t. cond t (independent (S.p + r)) (nth_jet S ((S.p + r) - S.p))) (le-ltb (S.p + r) S.p (more S.p r))
      ∙ ap (nth_jet S) (off S.p r)
      ∙ ap (λ m. nth_of_order S m (r - jets_below S m)) same ∙ ap (nth_of_order S n) (off (jets_below S n) k)
      ∙ ap (λ b. jet b (unrank S.p n (k - b * w))) same_a ∙ ap (λ z. jet a (unrank S.p n z)) (off (a * w) (rank J))
      ∙ ap (λ p. jet a (unrank p n (rank J))) (sym h.1) ∙ ap (jet a) (unrank-rank J)
    where
      before : (a q w s : ℕ) → a * w + w ≤ q * w → s < w → a * w + s < q * w
      before a q w s h k = omega arith

      more : (a b : ℕ) → a ≤ a + b
      more a b = omega arith

      off : (a b : ℕ) → (a + b) - a ≡ b
      off a b = omega arith

      within : (q s w k : ℕ) → k < q * w → q * s + k < q * (s + w)
      within q s w k h = omega arith

      nothing : (w r : ℕ) → 0 * w ≤ r
      nothing w r = omega arith

      beyond : (q w r : ℕ) → r < q * w → r < suc q * w
      beyond q w r h = omega arith

      multiples : (w : ℕ) → Rises (λ b. b * w)
      multiples w = by_steps (λ b. b * w) (λ b. step b)
        where
          step : (b : ℕ) → b * w ≤ suc b * w
          step b = omega arith

      next : (a w s : ℕ) → s < w → a * w + s < suc a * w
      next a w s h = omega arith

  -- ---- the orders
  pub number_below : (a : ℕ) (J : List ℕ) → IsCoordinate S (jet a J) → number S (jet a J) < coordinates_up_to S (order J)
  unfolding number
  number_below a J h =
      let small : rank J < ways S.p (order J) = subst (λ p. rank J < ways p (order J)) h.1 (ranked J) in
      within S.p S.q (sum_below (ways S.p) (order J)) (ways S.p (order J)) a (rank J) (room a S.q (ways S.p (order J)) h.0) small
    where
      within : (p q s w a k : ℕ) → a * w + w ≤ q * w → k < w → p + (q * s + (a * w + k)) < p + q * (s + w)
      within p q s w a k h g = omega arith

  pub count_rises : Rises (coordinates_up_to S)
  count_rises m n h = let k : jets_below S (suc m) ≤ jets_below S (suc n) = jets_rise (suc m) (suc n) (omega arith) in omega arith
