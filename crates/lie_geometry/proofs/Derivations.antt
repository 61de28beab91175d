-- The total derivative and the prolonged field are derivations.
use Rattle.std.specs.Prelude.{◌≡◌, ℕ, zero, suc, ◌+◌, ◌-◌, ◌<◌, ◌≤◌, List, [], ◌∷◌, length, max, All, slice_index_or}
use Rattle.std.proofs.Common.{sym, ap, subst, ◌∙◌, arith, ltb-true, lt-ltb}
use mathlib.Core.Path.{fun_ext}
use Rattle.lie_math.specs.Derivation.{is_below, bound, derivation, IsDerivation}
use Rattle.lie_math.specs.PartialDerivative.{partial}
use Rattle.lie_math.specs.Polynomial.{WholePolynomial, ◌+ᴾ◌, variable}
use Rattle.lie_math.specs.Variables.{IsIn}
use Rattle.lie_math.proofs.ChainRule.{chain_rule_below, derivation_is_derivation, derivation-variable}
use Rattle.lie_math.proofs.Derivation.{derivations_agree}
use Rattle.lie_math.proofs.PartialDerivation.{partial_is_derivation, sum_is_derivation}
use Rattle.lie_math.proofs.Variables.{in-wider, in-bound}
use Rattle.lie_geometry.specs.Coordinates.{Space, Coordinate, independent, jet, IsCoordinate, order_of, jets_below, number, coordinates_up_to, coordinate}
use Rattle.lie_geometry.specs.Invariance.{greatest_order, applied_prolongation}
use Rattle.lie_geometry.specs.Prolongation.{coordinate_derivative, total_derivative, coefficient_at}
use Rattle.lie_geometry.specs.SolvedEquations.{SolvedEquation, difference}
use Rattle.lie_geometry.proofs.Numbers.{coordinate_is, number_below, count_rises}

module _ (S : Space) where
  -- the total derivative of the coordinate with the number w
  abbrev pub variable_derivative : ℕ → ℕ → WholePolynomial
  variable_derivative i w = partial i (variable w) +ᴾ coordinate_derivative S i (coordinate S w)

  pub total_as_derivation : (i : ℕ) (P : WholePolynomial) → total_derivative S i P ≡ derivation (variable_derivative i) P
  unfolding total_derivative
  total_as_derivation i P =
      derivations_agree (sum_is_derivation (partial_is_derivation i) (derivation_is_derivation (λ w. coordinate_derivative S i (coordinate S w)))) (derivation_is_derivation (variable_derivative i)) (λ w. ap (λ z. partial i (variable w) +ᴾ z) (derivation-variable (λ w. coordinate_derivative S i (coordinate S w)) w) ∙ sym (derivation-variable (variable_derivative i) w)) P

  pub total_is_derivation : (i : ℕ) → IsDerivation (total_derivative S i)
  total_is_derivation i = subst IsDerivation (fun_ext (λ P. sym (total_as_derivation i P))) (derivation_is_derivation (variable_derivative i))

  abbrev pub field_coefficient : (ℕ → WholePolynomial) → ℕ → WholePolynomial
  field_coefficient V w = coefficient_at S V (coordinate S w)

  pub applied_as_derivation_at : (rs : List SolvedEquation) (V : ℕ → WholePolynomial) (r : SolvedEquation) → IsIn (is_below (coordinates_up_to S (greatest_order S rs))) (difference r) → applied_prolongation S rs V r ≡ derivation (field_coefficient V) (difference r)
  unfolding applied_prolongation
  applied_as_derivation_at rs V r h = chain_rule_below (coordinates_up_to S (greatest_order S rs)) (field_coefficient V) (derivation_is_derivation (field_coefficient V)) (derivation-variable (field_coefficient V)) (difference r) h

  abbrev pub order_in : SolvedEquation → ℕ
  order_in r = order_of (coordinate S (bound (difference r) - 1))

  module _ (some_p : 0 < S.p) (some_q : 0 < S.q) where
    covered : (w : ℕ) → w < coordinates_up_to S (order_of (coordinate S w))
    unfolding number
    covered w = let x = coordinate_is S some_p some_q w in subst (λ n. n < coordinates_up_to S (order_of (coordinate S w))) x.1 (go (coordinate S w) x.0)
      where
        go : (c : Coordinate) → IsCoordinate S c → number S c < coordinates_up_to S (order_of c)
        go (independent i) h = within i S.p (jets_below S 1) h
          where
            within : (i p j : ℕ) → i < p → i < p + j
            within i p j h = omega arith
        go (jet a J) h = number_below S some_p some_q a J h

    covered_bound : (b : ℕ) → b ≤ coordinates_up_to S (order_of (coordinate S (b - 1)))
    covered_bound zero = nothing _
      where
        nothing : (n : ℕ) → 0 ≤ n
        nothing n = omega arith
    covered_bound (suc w) = subst (λ n. suc w ≤ coordinates_up_to S (order_of (coordinate S n))) (less w) (next (covered w))
      where
        less : (w : ℕ) → w ≡ suc w - 1
        less w = omega arith

        next : {a b : ℕ} → a < b → suc a ≤ b
        next h = omega arith

    pub in_count : (rs : List SolvedEquation) (r : SolvedEquation) → order_in r ≤ greatest_order S rs → IsIn (is_below (coordinates_up_to S (greatest_order S rs))) (difference r)
    in_count rs r h =
        in-wider (is_below (bound (difference r))) (is_below (coordinates_up_to S (greatest_order S rs))) (λ w e. lt-ltb w _ (less w _ _ _ (ltb-true w (bound (difference r)) e) (covered_bound (bound (difference r))) (count_rises S some_p some_q (order_in r) (greatest_order S rs) h))) (difference r) (in-bound (difference r))
      where
        less : (w a b c : ℕ) → w < a → a ≤ b → b ≤ c → w < c
        less w a b c h k g = omega arith

    pub all_in : (rs : List SolvedEquation) → All (λ r. order_in r ≤ greatest_order S rs) rs
    all_in [] k d h = absurd (omega arith)
    all_in (r ∷ rs) zero d h = left (order_in r) (greatest_order S rs)
      where
        left : (a b : ℕ) → a ≤ max a b
        left a b = omega arith
    all_in (r ∷ rs) (suc k) d h = right _ (order_in r) (greatest_order S rs) (all_in rs k d (less h))
      where
        right : (c a b : ℕ) → c ≤ b → c ≤ max a b
        right c a b h = omega arith

        less : suc k < length (r ∷ rs) → k < length rs
        less h = omega arith

    -- the prolonged field is one derivation on each equation
    pub applied_as_derivation : (rs : List SolvedEquation) (V : ℕ → WholePolynomial) → All (λ r. applied_prolongation S rs V r ≡ derivation (field_coefficient V) (difference r)) rs
    applied_as_derivation rs V k d h = applied_as_derivation_at rs V (slice_index_or rs k d) (in_count rs (slice_index_or rs k d) (all_in rs k d h))
