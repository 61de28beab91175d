-- The numbers of jets, as the code makes them.
use Rattle.std.specs.Prelude.{◌≡◌, ℕ, suc, ◌+◌, ◌*◌, ◌<◌, ◌≤◌, ◌-◌, List, length, take}
use Rattle.std.proofs.Common.{ap, ap₂, ◌∙◌, arith}
use Rattle.std.proofs.lemmas.List.{length-take-le}
use Rattle.lie_math.specs.Counts.{order}
use Rattle.lie_geometry.specs.Coordinates.{Space, IsCoordinate, jet, number, coordinates_up_to, sum_below, ways, rank}
use Rattle.lie_geometry.proofs.Numbers.{number_below, count_rises}

pub one_more : (f : ℕ → ℕ) (n : ℕ) → sum_below f (n + 1) - sum_below f n ≡ f n
one_more f n = ap (λ m. sum_below f m - sum_below f n) (next n) ∙ left (sum_below f n) (f n)
  where
    next : (n : ℕ) → n + 1 ≡ suc n
    next n = omega arith

    left : (a b : ℕ) → (a + b) - a ≡ b
    left a b = omega arith

-- p + q * (the lists of lower orders) + a * (the lists of that order) + rank
pub number_by : (S : Space) (a : ℕ) (J : List ℕ) → S.p + S.q * sum_below (ways S.p) (order J) + a * (sum_below (ways S.p) (order J + 1) - sum_below (ways S.p) (order J)) + rank J ≡ number S (jet a J)
unfolding number
number_by S a J = ap (λ w. S.p + S.q * sum_below (ways S.p) (order J) + a * w + rank J) (one_more (ways S.p) (order J)) ∙ group S.p (S.q * sum_below (ways S.p) (order J)) (a * ways S.p (order J)) (rank J)
  where
    group : (a b c d : ℕ) → a + b + c + d ≡ a + (b + (c + d))
    group a b c d = omega arith

pub number_low : (S : Space) → 0 < S.p → 0 < S.q → (a : ℕ) (J : List ℕ) → IsCoordinate S (jet a J) → order J ≤ 12 → number S (jet a J) < coordinates_up_to S 12
number_low S h k a J is low = less _ _ _ (number_below S h k a J is) (count_rises S h k (order J) 12 low)
  where
    less : (a b c : ℕ) → a < b → b ≤ c → a < c
    less a b c h k = omega arith

-- the same by equal numbers
pub number_from : (S : Space) (a : ℕ) (J : List ℕ) (p q b c r : ℕ) → p ≡ S.p → q ≡ S.q → length J ≡ S.p → b ≡ sum_below (ways (length J)) (order J) → c ≡ sum_below (ways (length J)) (order J + 1) → r ≡ rank J → p + q * b + a * (c - b) + r ≡ number S (jet a J)
number_from S a J p q b c r hp hq l hb hc hr = equal _ _ (hb ∙ ap (λ n. sum_below (ways n) (order J)) l) (hc ∙ ap (λ n. sum_below (ways n) (order J + 1)) l) ∙ number_by S a J
  where
    equal : (y z : ℕ) → b ≡ y → c ≡ z → p + q * b + a * (c - b) + r ≡ S.p + S.q * y + a * (z - y) + rank J
    equal y z e f = cc

pub length_cut : (p : ℕ) (xs : List ℕ) → length xs ≡ 4 → p ≤ 4 → length (take p xs) ≡ p
length_cut p xs e h = length-take-le p xs (omega arith)

-- a number past the jets of the orders below n
pub past_from : (S : Space) (n w p p' q b : ℕ) → p ≡ S.p → p' ≡ S.p → q ≡ S.q → b ≡ sum_below (ways p) n → p' ≤ w → q * b ≤ w - p' → S.p + S.q * sum_below (ways S.p) n ≤ w
past_from S n w p p' q b hp hp' hq hb h k =
    let e : q * b ≡ S.q * sum_below (ways S.p) n = ap₂ (λ x y. x * y) hq (hb ∙ ap (λ m. sum_below (ways m) n) hp) in
    omega arith
