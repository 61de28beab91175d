-- Jets derived once more, and what variables become.
use Rattle.std.specs.Prelude.{◌≡◌, ℕ, zero, suc, ◌+◌, ◌<◌, ◌≤◌, List, [], ◌∷◌, length, take, drop, slice_set, slice_index, pos, replicate}
use Rattle.std.proofs.Common.{refl, sym, ap, subst, ◌∙◌, arith, ◌⊎◌, inl, inr}
use Rattle.std.proofs.lemmas.List.{drop-set-lt, length-set}
use Rattle.lie_math.specs.Counts.{order, raise}
use Rattle.lie_math.specs.PartialDerivative.{partial}
use Rattle.lie_math.specs.Polynomial.{WholePolynomial, 0ᴾ, constant, variable}
use Rattle.lie_math.proofs.PartialDerivation.{partial-itself, partial-other}
use Rattle.lie_math.proofs.Counts.{order_raise, order_zeros}
use Rattle.lie_geometry.specs.Coordinates.{Space, Coordinate, IsCoordinate, order_of, jet, number, coordinate, coordinates_up_to}
use Rattle.lie_geometry.proofs.Numbers.{coordinate_is, count_rises}
use Rattle.lie_geometry.proofs.NumberOrder.{order_below}
use Rattle.lie_geometry.proofs.ProlongedFields.{total_of_independent, total_of_jet}
use Rattle.lie_geometry.specs.Prolongation.{jet_variable, total_derivative}
use Rattle.lie_jet.specs.Jets.{coordinate_of, IsJet, IsSmall}
use Rattle.lie_jet.specs.declared.jet.Jet.{Jet}
use Rattle.lie_jet.proofs.NumberedJets.{rest_zeros}

-- one more at a place of the first p
pub take_raised : (p i : ℕ) (xs : List ℕ) → i < p → i < length xs → take p (slice_set xs i (slice_index xs i + 1)) ≡ raise i (take p xs)
take_raised p i [] h k = absurd (omega arith)
take_raised zero i (x ∷ xs) h k = absurd (omega arith)
take_raised (suc p) zero (x ∷ xs) h k = ap (λ c. c ∷ take p xs) (omega arith)
take_raised (suc p) (suc i) (x ∷ xs) h k = ap (λ l. x ∷ l) (take_raised p i xs (omega arith) (omega arith))

pub drop_raised : (p i c : ℕ) (xs : List ℕ) → i < p → drop p (slice_set xs i c) ≡ drop p xs
drop_raised p i c xs h = drop-set-lt p xs i c h

pub raised_jet : (S : Space) (j : Jet) (i : ℕ) → i < S.p → IsJet S 11 j →
    IsJet S 12 (record { dep = j.dep; counts = slice_set j.counts i (slice_index j.counts i + 1) }) × (coordinate_of S (record { dep = j.dep; counts = slice_set j.counts i (slice_index j.counts i + 1) }) ≡ jet j.dep (raise i (take S.p j.counts)))
raised_jet S j i h is =
    let p : S.p ≤ 4 = is.space.few_p in
    let four : length j.counts ≡ 4 = is.four in
    let front = take_raised S.p i j.counts h (omega arith) in
    let low : order (take S.p j.counts) ≤ 11 = is.low in (
      record {
        space = is.space;
        dependent = is.dependent;
        four = length-set _ _ _ ∙ four;
        rest = drop_raised S.p i _ j.counts h ∙ is.rest;
        low = let e : order (take S.p (slice_set j.counts i (slice_index j.counts i + 1))) ≡ suc (order (take S.p j.counts)) = ap order front ∙ order_raise i (take S.p j.counts) in omega arith;
      },
      ap (jet j.dep) front,
    )

module _ (S : Space) (small : IsSmall S) where
  pub low_jet : (w : ℕ) (j : Jet) → w < coordinates_up_to S 11 → IsJet S 12 j → coordinate S w ≡ coordinate_of S j → IsJet S 11 j
  low_jet w j h is e = record { space = small; dependent = is.dependent; four = is.four; rest = is.rest; low = subst (λ (c : Coordinate). order_of c ≤ 11) e ((order_below S small.some_p small.some_q w 11).1 h) }

  variable_is : (w a : ℕ) (J : List ℕ) → coordinate S w ≡ jet a J → variable w ≡ jet_variable S a J
  variable_is w a J e = ap variable (sym (coordinate_is S small.some_p small.some_q w).1 ∙ ap (number S) e)

  -- a jet is derived to the jet with one more
  pub slope_of_jet : (w i a : ℕ) (J : List ℕ) → i < S.p → coordinate S w ≡ jet a J → total_derivative S i (variable w) ≡ jet_variable S a (raise i J)
  slope_of_jet w i a J h e = ap (total_derivative S i) (variable_is w a J e) ∙ total_of_jet S small.some_p small.some_q i h a J (subst (IsCoordinate S) e (coordinate_is S small.some_p small.some_q w).0)

  -- what has no jet is independent, where it is low
  pub independent_below : (w : ℕ) → w < coordinates_up_to S 11 → (w < S.p) ⊎ (coordinates_up_to S 12 ≤ w) → w < S.p
  independent_below w h (inl k) = k
  independent_below w h (inr k) = absurd (let g : coordinates_up_to S 11 ≤ coordinates_up_to S 12 = count_rises S small.some_p small.some_q 11 12 (omega arith) in omega arith)

  pub slope_at_itself : (w i : ℕ) → w < S.p → i ≡ w → total_derivative S i (variable w) ≡ constant (pos 1)
  slope_at_itself w i h e = total_of_independent S small.some_p small.some_q i w h ∙ ap (λ k. partial i (variable k)) (sym e) ∙ partial-itself i

  pub slope_elsewhere : (w i : ℕ) → w < S.p → ¬ (i ≡ w) → total_derivative S i (variable w) ≡ 0ᴾ
  slope_elsewhere w i h n = total_of_independent S small.some_p small.some_q i w h ∙ partial-other i w n

-- ---- the jet of order 0
take_zeros : (p : ℕ) → p ≤ 4 → take {A = ℕ} p (0 ∷ 0 ∷ 0 ∷ 0 ∷ []) ≡ replicate p 0
take_zeros zero h = refl
take_zeros (suc zero) h = refl
take_zeros (suc (suc zero)) h = refl
take_zeros (suc (suc (suc zero))) h = refl
take_zeros (suc (suc (suc (suc zero)))) h = refl
take_zeros (suc (suc (suc (suc (suc p))))) h = absurd (omega arith)

pub is_dependent : (S : Space) (b : ℕ) → IsSmall S → b < S.q → IsJet S 11 (record { dep = b; counts = 0 ∷ 0 ∷ 0 ∷ 0 ∷ [] })
is_dependent S b small h = record { space = small; dependent = h; four = refl; rest = rest_zeros S.p small.few_p; low = subst (λ J. order J ≤ 11) (sym (take_zeros S.p small.few_p)) (let e = order_zeros S.p in omega arith) }

pub dependent_raised : (S : Space) (b i n : ℕ) (c : Coordinate) (p : WholePolynomial) → IsSmall S → c ≡ jet b (raise i (take S.p (0 ∷ 0 ∷ 0 ∷ 0 ∷ []))) → n ≡ number S c → p ≡ variable n → p ≡ jet_variable S b (raise i (replicate S.p 0))
dependent_raised S b i n c p small e h q = q ∙ ap variable (h ∙ ap (number S) (e ∙ ap (λ J. jet b (raise i J)) (take_zeros S.p small.few_p)))
