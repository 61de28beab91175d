-- The numbers go by the order of the coordinates.
use Rattle.std.specs.Prelude.{◌≡◌, ℕ, zero, suc, ◌+◌, ◌*◌, ◌-◌, ◌<◌, ◌≤◌, Bool, true, false, List, [], ◌∷◌, ◌↔◌, length, ltb}
use Rattle.std.proofs.Common.{refl, sym, ap, ap₂, subst, ◌∙◌, arith, ltb-true, ltb-false, inl, inr}
use Rattle.lie_math.specs.Counts.{order}
use Rattle.lie_geometry.specs.CoordinateLaws.{GreaterCounts, Before}
use Rattle.lie_geometry.specs.Coordinates.{Space, Coordinate, independent, jet, IsCoordinate, order_of, sum_below, ways, rank, jets_below, number, coordinates_up_to, coordinate}
use Rattle.lie_geometry.proofs.Numbers.{sum_rises, ranked, room, coordinate_is, number_below, count_rises}

pub rank_rises : (J K : List ℕ) → length J ≡ length K → order J ≡ order K → GreaterCounts J K → rank J < rank K
rank_rises [] K e f g = absurd g
rank_rises (c ∷ J) [] e f g = absurd g
rank_rises (c ∷ J) (d ∷ K) e f (inl g) =
    let l : length J ≡ length K = omega arith in
    let small : rank J < ways (length J) (order J) = ranked J in
    let more : sum_below (ways (length J)) (suc (order J)) ≤ sum_below (ways (length J)) (order K) = sum_rises (ways (length J)) (suc (order J)) (order K) (omega arith) in
    subst (λ n. sum_below (ways (length J)) (order J) + rank J < sum_below (ways n) (order K) + rank K) l (join _ _ _ _ _ small more)
  where
    join : (a w r b s : ℕ) → r < w → a + w ≤ b → a + r < b + s
    join a w r b s h k = omega arith
rank_rises (c ∷ J) (d ∷ K) e f (inr g) =
    let l : length J ≡ length K = omega arith in
    let o : order J ≡ order K = same c d _ _ g.0 f in
    let less : rank J < rank K = rank_rises J K l o g.1 in
    subst (λ n. sum_below (ways (length J)) (order J) + rank J < n + rank K) (ap₂ (λ n m. sum_below (ways n) m) l o) (join _ _ _ less)
  where
    same : (c d a b : ℕ) → c ≡ d → c + a ≡ d + b → a ≡ b
    same c d a b h k = omega arith

    join : (a r s : ℕ) → r < s → a + r < a + s
    join a r s h = omega arith

module _ (S : Space) (some_p : 0 < S.p) (some_q : 0 < S.q) where
  jets_rise : (m n : ℕ) → m < n → jets_below S (suc m) ≤ jets_below S n
  jets_rise m n h = times S.q _ _ (sum_rises (ways S.p) (suc m) n (omega arith))
    where
      times : (q a b : ℕ) → a ≤ b → q * a ≤ q * b
      times q a b h =
          let e : b ≡ a + (b - a) = omega arith in
          let k : q * b ≡ q * (a + (b - a)) = ap (λ x. q * x) e in
          omega arith

  number_base : (i : ℕ) → number S (independent i) ≡ i
  unfolding number
  number_base i = refl

  at_least : (a : ℕ) (J : List ℕ) (n : ℕ) → n < order J → coordinates_up_to S n ≤ number S (jet a J)
  unfolding number
  at_least a J n h = join S.p _ _ _ (jets_rise n (order J) h)
    where
      join : (p s t r : ℕ) → s ≤ t → p + s ≤ p + (t + r)
      join p s t r h = omega arith

  pub number_rises : (c d : Coordinate) → IsCoordinate S c → IsCoordinate S d → Before c d → number S c < number S d
  unfolding number
  number_rises (independent i) (independent j) is ks h = h
  number_rises (independent i) (jet b K) is ks h = is_below i S.p _ is
    where
      is_below : (i p n : ℕ) → i < p → i < p + n
      is_below i p n h = omega arith
  number_rises (jet a J) (independent j) is ks h = absurd h
  number_rises (jet a J) (jet b K) is ks (inl h) =
      let small : number S (jet a J) < coordinates_up_to S (order J) = number_below S some_p some_q a J is in
      join _ S.p _ _ _ small (jets_rise (order J) (order K) h)
    where
      join : (n p s t r : ℕ) → n < p + s → s ≤ t → n < p + (t + r)
      join n p s t r h k = omega arith
  number_rises (jet a J) (jet b K) is ks (inr (e, inl h)) =
      let small : rank J < ways S.p (order J) = subst (λ p. rank J < ways p (order J)) is.1 (ranked J) in
      subst (λ n. S.p + (jets_below S (order J) + (a * ways S.p (order J) + rank J)) < S.p + (jets_below S n + (b * ways S.p n + rank K))) e (join S.p _ _ _ _ _ _ small (room a b (ways S.p (order J)) h))
    where
      join : (p s x r w y t : ℕ) → r < w → x + w ≤ y → p + (s + (x + r)) < p + (s + (y + t))
      join p s x r w y t h k = omega arith
  number_rises (jet a J) (jet b K) is ks (inr (e, inr h)) =
      let less : rank J < rank K = rank_rises J K (is.1 ∙ sym ks.1) e h.1 in
      subst (λ n. S.p + (jets_below S (order J) + (a * ways S.p (order J) + rank J)) < n) (ap₂ (λ n b. S.p + (jets_below S n + (b * ways S.p n + rank K))) e h.0) (join S.p _ _ _ _ less)
    where
      join : (p s x r t : ℕ) → r < t → p + (s + (x + r)) < p + (s + (x + t))
      join p s x r t h = omega arith

  -- the coordinates of the orders 0 to n are those with the numbers below
  pub order_below : (w n : ℕ) → order_of (coordinate S w) ≤ n ↔ w < coordinates_up_to S n
  order_below w n = let x = coordinate_is S some_p some_q w in go (coordinate S w) x.0 x.1
    where
      within : (i p j : ℕ) → i < p → i < p + j
      within i p j h = omega arith

      nothing : (n : ℕ) → 0 ≤ n
      nothing n = omega arith

      less : (w a b : ℕ) → w < a → a ≤ b → w < b
      less w a b h k = omega arith

      go : (c : Coordinate) → IsCoordinate S c → number S c ≡ w → order_of c ≤ n ↔ w < coordinates_up_to S n
      go (independent i) is e = (λ h. subst (λ m. m < coordinates_up_to S n) (sym (number_base i) ∙ e) (within i S.p (jets_below S (suc n)) is), λ h. nothing n)
      go (jet a J) is e = (
        λ h. subst (λ m. m < coordinates_up_to S n) e (less _ _ _ (number_below S some_p some_q a J is) (count_rises S some_p some_q (order J) n h)),
        λ h. by (ltb n (order J)) refl h,
      )
        where
          by : (t : Bool) → ltb n (order J) ≡ t → w < coordinates_up_to S n → order J ≤ n
          by true f g = absurd (let k : coordinates_up_to S n ≤ number S (jet a J) = at_least a J n (ltb-true n (order J) f) in let m : number S (jet a J) ≡ w = e in omega arith)
          by false f g = ltb-false n (order J) f

-- ---- the numbers are small
pub sums_small : (p : ℕ) → p ≤ 4 → sum_below (ways p) 13 ≤ 1820
sums_small zero h = omega arith
sums_small (suc zero) h = omega arith
sums_small (suc (suc zero)) h = omega arith
sums_small (suc (suc (suc zero))) h = omega arith
sums_small (suc (suc (suc (suc zero)))) h = omega arith
sums_small (suc (suc (suc (suc (suc p))))) h = absurd (omega arith)

-- up to 4 variables of each kind, and up to order 12
pub number_below_bound : (S : Space) → 0 < S.p → S.p ≤ 4 → 0 < S.q → S.q ≤ 4 → (a : ℕ) (J : List ℕ) → IsCoordinate S (jet a J) → order J ≤ 12 → number S (jet a J) < 7284
number_below_bound S some_p few_p some_q few_q a J is h =
    let b : number S (jet a J) < coordinates_up_to S (order J) = number_below S some_p some_q a J is in
    let c : coordinates_up_to S (order J) ≤ coordinates_up_to S 12 = count_rises S some_p some_q (order J) 12 h in
    last S.p S.q (sum_below (ways S.p) 13) _ _ b c few_p few_q (sums_small S.p few_p)
  where
    last : (p q s n m : ℕ) → n < m → m ≤ p + q * s → p ≤ 4 → q ≤ 4 → s ≤ 1820 → n < 7284
    last p q s n m h k f g e =
        let x : q * s ≤ 4 * s = times q s g in
        omega arith
      where
        times : (q s : ℕ) → q ≤ 4 → q * s ≤ 4 * s
        times zero s h = omega arith
        times (suc zero) s h = omega arith
        times (suc (suc zero)) s h = omega arith
        times (suc (suc (suc zero))) s h = omega arith
        times (suc (suc (suc (suc zero)))) s h = omega arith
        times (suc (suc (suc (suc (suc q))))) s h = absurd (omega arith)
