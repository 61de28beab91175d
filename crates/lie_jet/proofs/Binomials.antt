-- How many lists of up to four counts have a sum below n: products of numbers that follow one another, divided.
use Rattle.std.specs.Prelude.{◌≡◌, ℕ, zero, suc, ◌+◌, ◌*◌, ◌<◌, ◌≤◌, ◌/◌, min, List, length}
use Rattle.std.proofs.Common.{refl, sym, ap, ◌∙◌, arith}
use Rattle.std.proofs.Math.Nat.{mul-le-mul, mul-div_cancel_left}
use Rattle.std.proofs.lemmas.Grind.{common_steps}
use Rattle.lie_geometry.specs.Coordinates.{sum_below, ways, rank}
use Rattle.lie_math.specs.Counts.{order}
use Rattle.lie_geometry.proofs.Numbers.{sum_rises, ranked}
use Rattle.lie_geometry.proofs.NumberOrder.{sums_small}

no_more : (n : ℕ) → ways 0 (suc n) ≡ 0
no_more n = grind (arith, common_steps)

pub below_of_none : (n : ℕ) → sum_below (ways 0) n ≡ min n 1
below_of_none zero = refl
below_of_none (suc zero) = refl
below_of_none (suc (suc n)) = omega (arith, below_of_none (suc n), no_more n)

pub below_of_one : (n : ℕ) → sum_below (ways 1) n ≡ n
below_of_one zero = refl
below_of_one (suc n) = omega (arith, below_of_one n, below_of_none (suc n))

pub below_of_two : (n : ℕ) → 2 * sum_below (ways 2) n ≡ n * (n + 1)
below_of_two zero = refl
below_of_two (suc n) = omega (arith, below_of_two n, below_of_one (suc n))

pub below_of_three : (n : ℕ) → 6 * sum_below (ways 3) n ≡ n * (n + 1) * (n + 2)
below_of_three zero = refl
below_of_three (suc n) = omega (arith, below_of_three n, below_of_two (suc n))

pub below_of_four : (n : ℕ) → 24 * sum_below (ways 4) n ≡ n * (n + 1) * (n + 2) * (n + 3)
below_of_four zero = refl
below_of_four (suc n) = omega (arith, below_of_four n, below_of_three (suc n))

-- ---- and none of them is great
pub low_product : (n : ℕ) → n ≤ 13 → n * (n + 1) * (n + 2) * (n + 3) ≤ 43680
low_product n h =
    let a : n * (n + 1) ≤ 13 * 14 = mul-le-mul h (step 1) in
    let b : n * (n + 1) * (n + 2) ≤ 13 * 14 * 15 = mul-le-mul a (step 2) in
    let c : n * (n + 1) * (n + 2) * (n + 3) ≤ 13 * 14 * 15 * 16 = mul-le-mul b (step 3) in
    c
  where
    step : (k : ℕ) → n + k ≤ 13 + k
    step k = omega arith

pub few_below : (p n : ℕ) → p ≤ 4 → n ≤ 13 → sum_below (ways p) n ≤ 1820
few_below p n h k = let a : sum_below (ways p) n ≤ sum_below (ways p) 13 = sum_rises (ways p) n 13 k in let b : sum_below (ways p) 13 ≤ 1820 = sums_small p h in omega arith

pub few_ranks : (J : List ℕ) → length J ≤ 4 → order J ≤ 12 → rank J ≤ 1820
few_ranks J h k = let a : rank J < ways (length J) (order J) = ranked J in let b : sum_below (ways (length J)) (suc (order J)) ≤ 1820 = few_below (length J) (suc (order J)) h (omega arith) in omega arith

-- ---- the quotient of a multiple
pub quotient : (d s n : ℕ) → 0 < d → d * s ≡ n → n / d ≡ s
quotient d s n h e = ap (λ m. m / d) (sym e) ∙ mul-div_cancel_left s h
