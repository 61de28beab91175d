-- Fields that are multiples of one another by numbers are invariant together.
use Rattle.std.specs.Prelude.{◌≡◌, ℕ, ◌+◌, ◌<◌, List, [], ◌∷◌, All, slice_index_or, ℤ, pos, not}
use Rattle.std.proofs.Common.{refl, sym, ap, ap₂, subst, ◌∙◌, arith}
use mathlib.Core.Path.{fun_ext}
use Rattle.lie_math.specs.Counts.{raise}
use Rattle.lie_math.specs.Derivation.{sum_of, numbers_below, derivation}
use Rattle.lie_math.specs.PartialDerivative.{partial}
use Rattle.lie_math.specs.Polynomial.{WholePolynomial, ◌+ᴾ◌, ◌*ᴾ◌, constant, negᴾ}
use Rattle.lie_math.specs.PolynomialRing.{*ᴾ_assoc, polynomial_ring}
use Rattle.lie_math.specs.Variables.{IsIn}
use Rattle.lie_math.proofs.ChainRule.{derivation_is_derivation}
use Rattle.lie_math.proofs.Ring.{plus_idr, nil_times}
use Rattle.lie_math.proofs.RingSolver.{v, ◌⊕◌, ◌⊗◌, ⊖, solve, listed}
use Rattle.lie_math.proofs.SumOf.{times-sum_of}
use Rattle.lie_geometry.specs.Coordinates.{Space, Coordinate, independent, jet, IsCoordinate, coordinates_up_to, coordinate}
use Rattle.lie_geometry.specs.Invariance.{greatest_order, applied_prolongation, AreInvariant}
use Rattle.lie_geometry.specs.Prolongation.{indices, jet_variable, total_derivative, counts_of_indices, prolonged_coefficient, coefficient_at}
use Rattle.lie_geometry.specs.SolvedEquations.{SolvedEquation, difference, is_lead}
use Rattle.lie_geometry.proofs.Derivations.{variable_derivative, total_as_derivation}
use Rattle.lie_geometry.proofs.Ideals.{HaveDistinctLeads, HasMultiple, multiple_of_reduced, reduced_of_multiple, multiple_times, multiple_off}
use Rattle.lie_geometry.proofs.Numbers.{coordinate_is}
use Rattle.lie_geometry.proofs.Reduction.{NonzeroFactors}
use Rattle.lie_geometry.proofs.SymbolicProlongation.{sum_of-same}

-- ---- multiples
module _ (S : Space) (m : ℤ) where
  times : (ℕ → WholePolynomial) → ℕ → WholePolynomial
  times V s = constant m *ᴾ V s

  total_times : (k : ℕ) (P : WholePolynomial) → total_derivative S k (constant m *ᴾ P) ≡ constant m *ᴾ total_derivative S k P
  total_times k P =
      total_as_derivation S k (constant m *ᴾ P) ∙ (derivation_is_derivation (variable_derivative S k)).times (constant m) P ∙ ap (λ z. constant m *ᴾ derivation (variable_derivative S k) P +ᴾ z *ᴾ P) ((derivation_is_derivation (variable_derivative S k)).whole m)
      ∙ ap (λ z. constant m *ᴾ derivation (variable_derivative S k) P +ᴾ z) (nil_times polynomial_ring P) ∙ plus_idr polynomial_ring _ ∙ ap (λ z. constant m *ᴾ z) (sym (total_as_derivation S k P))

  out : (n a b : WholePolynomial) → n *ᴾ a +ᴾ negᴾ (n *ᴾ b) ≡ n *ᴾ (a +ᴾ negᴾ b)
  out n a b = solve polynomial_ring (listed n (n ∷ a ∷ b ∷ [])) (v 0 ⊗ v 1 ⊕ ⊖ (v 0 ⊗ v 2)) (v 0 ⊗ (v 1 ⊕ ⊖ (v 2))) refl

  coefficient_times : (V : ℕ → WholePolynomial) (a : ℕ) (W : List ℕ) → prolonged_coefficient S (λ s. constant m *ᴾ V s) a W ≡ constant m *ᴾ prolonged_coefficient S V a W
  unfolding prolonged_coefficient
  coefficient_times V a [] = refl
  coefficient_times V a (k ∷ W) =
      ap₂ (λ x y. x +ᴾ negᴾ y) (ap (total_derivative S k) (coefficient_times V a W) ∙ total_times k (prolonged_coefficient S V a W))
      (ap (sum_of (numbers_below S.p)) (fun_ext (λ i. ap (λ z. z *ᴾ jet_variable S a (raise i (counts_of_indices S W))) (total_times k (V i)) ∙ *ᴾ_assoc (constant m) (total_derivative S k (V i)) (jet_variable S a (raise i (counts_of_indices S W))))) ∙ sym (times-sum_of (numbers_below S.p) (λ i. total_derivative S k (V i) *ᴾ jet_variable S a (raise i (counts_of_indices S W))) (constant m)))
      ∙ out (constant m) _ _

  component_times : (V : ℕ → WholePolynomial) (c : Coordinate) → coefficient_at S (λ s. constant m *ᴾ V s) c ≡ constant m *ᴾ coefficient_at S V c
  component_times V (independent i) = refl
  component_times V (jet a J) = coefficient_times V a (indices J)

  pub applied_times : (rs : List SolvedEquation) (V : ℕ → WholePolynomial) (r : SolvedEquation) → applied_prolongation S rs (λ s. constant m *ᴾ V s) r ≡ constant m *ᴾ applied_prolongation S rs V r
  unfolding applied_prolongation
  applied_times rs V r =
      ap (sum_of (numbers_below (coordinates_up_to S (greatest_order S rs)))) (fun_ext (λ w. ap (λ z. z *ᴾ partial w (difference r)) (component_times V (coordinate S w)) ∙ *ᴾ_assoc (constant m) (coefficient_at S V (coordinate S w)) (partial w (difference r))))
      ∙ sym (times-sum_of (numbers_below (coordinates_up_to S (greatest_order S rs))) (λ w. coefficient_at S V (coordinate S w) *ᴾ partial w (difference r)) (constant m))

-- ---- the components alone matter
module _ (S : Space) (some_p : 0 < S.p) (some_q : 0 < S.q) where
  module _ (V W : ℕ → WholePolynomial) (same : (s : ℕ) → s < S.p + S.q → V s ≡ W s) where
    inside : (i : ℕ) → i < S.p → i < S.p + S.q
    inside i h = omega arith

    coefficient_same : (a : ℕ) → a < S.q → (J : List ℕ) → prolonged_coefficient S V a J ≡ prolonged_coefficient S W a J
    unfolding prolonged_coefficient
    coefficient_same a h [] = same (S.p + a) (within h)
      where
        within : a < S.q → S.p + a < S.p + S.q
        within h = omega arith
    coefficient_same a h (k ∷ J) = ap₂ (λ x y. x +ᴾ negᴾ y) (ap (total_derivative S k) (coefficient_same a h J)) (sum_of-same S.p _ _ (λ i g. ap (λ z. total_derivative S k z *ᴾ jet_variable S a (raise i (counts_of_indices S J))) (same i (inside i g))))

    pub applied_same : (rs : List SolvedEquation) (r : SolvedEquation) → applied_prolongation S rs V r ≡ applied_prolongation S rs W r
    unfolding applied_prolongation
    applied_same rs r = ap (sum_of (numbers_below (coordinates_up_to S (greatest_order S rs)))) (fun_ext (λ w. ap (λ z. z *ᴾ partial w (difference r)) (at (coordinate S w) (coordinate_is S some_p some_q w).0)))
      where
        at : (c : Coordinate) → IsCoordinate S c → coefficient_at S V c ≡ coefficient_at S W c
        at (independent i) h = same i (inside i h)
        at (jet a J) h = coefficient_same a h.0 (indices J)

  module _ (rs : List SolvedEquation) (apart : NonzeroFactors rs) (distinct : HaveDistinctLeads rs) (solved : All (λ r. IsIn (λ w. not (is_lead rs w)) r.right) rs) where
    -- fields with multiples in common meet the condition together
    pub invariant_multiple : (m n : ℤ) → ¬ (m ≡ pos 0) → ¬ (n ≡ pos 0) → (V W : ℕ → WholePolynomial) → ((s : ℕ) → s < S.p + S.q → constant m *ᴾ V s ≡ constant n *ᴾ W s) → AreInvariant S rs V → AreInvariant S rs W
    invariant_multiple m n am an V W same h k d f =
        let r : SolvedEquation = slice_index_or rs k d in
        reduced_of_multiple rs apart distinct solved (applied_prolongation S rs W r) (
        multiple_off rs apart distinct solved n an (applied_prolongation S rs W r) (
        subst (HasMultiple rs apart distinct solved) (sym (applied_times S m rs V r) ∙ applied_same (λ s. constant m *ᴾ V s) (λ s. constant n *ᴾ W s) same rs r ∙ applied_times S n rs W r)
        (multiple_times rs apart distinct solved (constant m) (applied_prolongation S rs V r) (multiple_of_reduced rs apart distinct solved (applied_prolongation S rs V r) (h k d f)))))
