-- Counts with one more at a place, and the jets that they make.
use Rattle.std.specs.Prelude.{ℕ, zero, suc, ◌+◌, ◌-◌, ◌≡◌, ◌≤◌, ◌<◌, List, [], ◌∷◌, length, take, drop, replicate, slice_set, slice_index, Option, Some, None, IfSome, refl}
use Rattle.std.proofs.Common.{length-set, get_or, set, sym, ap, ◌∙◌, subst, arith}
use Rattle.std.proofs.Math.Seq.{take-set-lt}
use Rattle.std.proofs.lemmas.List.{drop-set-lt, drop-replicate, get_or-take, length-take-le}
use Rattle.lie_math.specs.Counts.{order}
use Rattle.lie_geometry.specs.Coordinates.{Space}
use Rattle.lie_jet.specs.Jets.{IsJet}
use Rattle.lie_scan.specs.Names.{one_more}
use Rattle.lie_scan.specs.Variables.{AreCounts}

order_one_more : (J : List ℕ) (i : ℕ) → i < length J → order (set J i (get_or J i 0 + 1)) ≡ order J + 1
order_one_more [] i lt = absurd (omega arith)
order_one_more (c ∷ J) zero lt = omega arith
order_one_more (c ∷ J) (suc i) lt = let e = order_one_more J i (omega arith) in omega arith

count_low : (J : List ℕ) (i : ℕ) → get_or J i 0 ≤ order J
count_low [] i = omega arith
count_low (c ∷ J) zero = omega arith
count_low (c ∷ J) (suc i) = let e = count_low J i in omega arith

order_zeros : (n m : ℕ) → order (take n (replicate m 0)) ≡ 0
order_zeros zero m = refl
order_zeros (suc n) zero = refl
order_zeros (suc n) (suc m) = let e = order_zeros n m in omega arith

pub counts_none : (names : List ℕ) → AreCounts names 0 (0 ∷ 0 ∷ 0 ∷ 0 ∷ [])
counts_none names = record {
  four = refl;
  rest = drop-replicate (length names) 4 0;
  low = let e = order_zeros (length names) 4 in omega arith;
}

counts_more : (names : List ℕ) (n i : ℕ) (J : List ℕ) → length names ≤ 4 → i < length names → AreCounts names n J → AreCounts names (n + 1) (slice_set J i (slice_index J i + 1))
counts_more names n i J few lt h =
    let four = h.four in
    let low = h.low in
    let long : length (take (length names) J) ≡ length names = length-take-le (length names) J (omega arith) in
    let same : slice_index J i ≡ get_or (take (length names) J) i 0 = sym (get_or-take (length names) J i 0 lt) in
    let cut : take (length names) (slice_set J i (slice_index J i + 1)) ≡ set (take (length names) J) i (get_or (take (length names) J) i 0 + 1) =
    take-set-lt (length names) J i (slice_index J i + 1) lt ∙ ap (λ k. set (take (length names) J) i (k + 1)) same in
    let sum = ap order cut ∙ order_one_more (take (length names) J) i (omega arith) in
    record {
      four = length-set J i (slice_index J i + 1) ∙ four;
      rest = drop-set-lt (length names) J i (slice_index J i + 1) lt ∙ h.rest;
      low = omega arith;
    }

counts_wider : (names : List ℕ) (n : ℕ) (J : List ℕ) → AreCounts names n J → AreCounts names (n + 1) J
counts_wider names n J h = let low = h.low in record { four = h.four; rest = h.rest; low = omega arith }

count_fits : (names : List ℕ) (n i : ℕ) (J : List ℕ) → i < length names → AreCounts names n J → slice_index J i ≤ n
count_fits names n i J lt h =
    let low = h.low in
    let same : slice_index J i ≡ get_or (take (length names) J) i 0 = sym (get_or-take (length names) J i 0 lt) in
    let most = count_low (take (length names) J) i in
    omega arith

-- one letter more
pub counts_step : (names : List ℕ) (n : ℕ) (J : List ℕ) (place : Option ℕ) → length names ≤ 4 → IfSome place (λ i. i < length names) → AreCounts names n J → AreCounts names (n + 1) (one_more J place)
counts_step names n J None few within h = counts_wider names n J h
counts_step names n J (Some i) few within h = counts_more names n i J few within h

pub step_within : (names : List ℕ) (place : Option ℕ) → length names ≤ 4 → IfSome place (λ i. i < length names) → IfSome place (λ i. i < 4)
step_within names None few within = tt
step_within names (Some i) few within = omega arith

pub step_fits : (names : List ℕ) (n : ℕ) (J : List ℕ) (place : Option ℕ) → n ≤ 6 → IfSome place (λ i. i < length names) → AreCounts names n J → IfSome place (λ i. slice_index J i < 255)
step_fits names n J None low within h = tt
step_fits names n J (Some i) low within h = let e = count_fits names n i J within h in omega arith

pub counts_jet : (S : Space) (names : List ℕ) (n a : ℕ) (J : List ℕ) → 0 < S.p → S.p ≤ 4 → 0 < S.q → S.q ≤ 4 → length names ≡ S.p → n ≤ 12 → a < S.q → AreCounts names n J → IsJet S 12 (record { dep = a; counts = J })
counts_jet S names n a J some_p few_p some_q few_q p few dependent h = let low = h.low in record {
  space = record { some_p = some_p; few_p = few_p; some_q = some_q; few_q = few_q };
  dependent = dependent;
  four = h.four;
  rest = subst (λ k. drop k J ≡ replicate (4 - k) 0) p h.rest;
  low = subst (λ k. order (take k J) ≤ 12) p (omega arith);
}

pub zero_jet : (S : Space) (a : ℕ) → 0 < S.p → S.p ≤ 4 → 0 < S.q → S.q ≤ 4 → a < S.q → IsJet S 12 (record { dep = a; counts = 0 ∷ 0 ∷ 0 ∷ 0 ∷ [] })
zero_jet S a some_p few_p some_q few_q dependent = record {
  space = record { some_p = some_p; few_p = few_p; some_q = some_q; few_q = few_q };
  dependent = dependent;
  four = refl;
  rest = drop-replicate S.p 4 0;
  low = let e = order_zeros S.p 4 in omega arith;
}
