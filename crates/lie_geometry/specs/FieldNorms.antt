-- A bound of the prolonged coefficients of a field, told by its own numbers: M bounds the norms of its components, D their degrees.
use Rattle.std.specs.Prelude.{◌≡◌, ℕ, zero, suc, ◌+◌, ◌*◌, ◌≤◌, List, pos}
use Rattle.lie_math.specs.Counts.{raise}
use Rattle.lie_math.specs.Derivation.{sum_of, numbers_below}
use Rattle.lie_math.specs.Limits.{absolute}
use Rattle.lie_math.specs.Monomial.{Monomial, degree}
use Rattle.lie_math.specs.Polynomial.{WholePolynomial, coefficient, ◌+ᴾ◌, ◌*ᴾ◌}
use Rattle.lie_geometry.specs.Coordinates.{Space}
use Rattle.lie_geometry.specs.Norms.{norm}
use Rattle.lie_geometry.specs.Prolongation.{jet_variable, total_derivative, counts_of_indices, prolonged_coefficient}

-- no number of p but at monomials of degrees up to n, and the norm is at most b
pub record IsBoundedBy (b n : ℕ) (p : WholePolynomial) : Type 0 where
  pub norm : norm p ≤ b
  pub degrees : (m : Monomial) → ¬ (coefficient p m ≡ pos 0) → degree m ≤ n

module _ (S : Space) where
  -- a total derivative makes at most D + 1 terms of one of the coefficient, and D of one of a component
  abbrev pub field_norm_bound : ℕ → ℕ → ℕ → ℕ
  field_norm_bound M D zero = M
  field_norm_bound M D (suc k) = suc D * field_norm_bound M D k + S.p * (D * M)

  -- the bulk of the step of the recursion that derives by x_k once more
  abbrev pub field_bulk_of_step : (ℕ → WholePolynomial) → ℕ → ℕ → List ℕ → WholePolynomial
  field_bulk_of_step V a k W = total_derivative S k (absolute (prolonged_coefficient S V a W)) +ᴾ sum_of (numbers_below S.p)
      (λ i. total_derivative S k (absolute (V i)) *ᴾ jet_variable S a (raise i (counts_of_indices S W)))
