-- A bound of the symbolic prolonged coefficients: how great their norms can be, told by the numbers of variables and the order alone.
use Rattle.std.specs.Prelude.{◌≡◌, ℕ, zero, suc, ◌+◌, ◌*◌, ◌≤◌, List, pos}
use Rattle.lie_math.specs.Counts.{Derivative, order, raise}
use Rattle.lie_math.specs.Derivation.{numbers_below}
use Rattle.lie_math.specs.FiniteSum as finite
use Rattle.lie_math.specs.Limits.{absolute}
use Rattle.lie_math.specs.LinearForm.{forms, LinearForm, ◌+ᶠ◌, each_coefficient, times_form}
use Rattle.lie_math.specs.Monomial.{Monomial, degree}
use Rattle.lie_math.specs.Polynomial.{coefficient}
use Rattle.lie_geometry.specs.Coordinates.{Space}
use Rattle.lie_geometry.specs.Norms.{form_norm}
use Rattle.lie_geometry.specs.Prolongation.{jet_variable, counts_of_indices}
use Rattle.lie_geometry.specs.SymbolicProlongation.{forms_over, unknown, symbolic_total, symbolic_coefficient}

module _ (S : Space) where
  -- ---- each number counts as often as w tells, by the order o of its derivative and the degree n of its monomial
  -- a total derivative makes of a number n of this order and degree, where a factor of the monomial is derived, one of the next order,
  -- where the unknown is derived by the variable, and q of the next order and degree
  abbrev pub total_weight : (ℕ → ℕ → ℕ) → ℕ → ℕ → ℕ
  total_weight w o n = n * w o n + (w (suc o) n + S.q * w (suc o) (suc n))

  -- at a jet of order k: the unknown itself, derived k times, and at each step p jets times total derivatives of an unknown
  abbrev pub weight_bound : (ℕ → ℕ → ℕ) → ℕ → ℕ
  weight_bound w zero = w 0 0
  weight_bound w (suc k) = weight_bound (total_weight w) k + S.p * (w 1 1 + S.q * w 1 2)

  -- each number counts once
  abbrev pub norm_bound : ℕ → ℕ
  norm_bound k = weight_bound (λ o n. 1) k

  -- ---- the bulk of the step of the recursion that derives by x_k once more: absolute values, and a plus in place of the minus
  abbrev pub bulk_of_step : ℕ → ℕ → List ℕ → LinearForm
  bulk_of_step a k W = symbolic_total S k (each_coefficient absolute (symbolic_coefficient S a W)) +ᶠ forms_over (numbers_below S.p)
      (λ i. times_form (jet_variable S a (raise i (counts_of_indices S W))) (symbolic_total S k (unknown i)))

-- no derivative in E has an order past k, no monomial a degree past k + 1, and the norm is at most the bound
pub record IsBoundedAt (S : Space) (k : ℕ) (E : LinearForm) : Type 0 where
  pub norm : form_norm E ≤ norm_bound S k
  pub orders : (d : Derivative) (m : Monomial) → ¬ (coefficient (finite.value forms E d) m ≡ pos 0) → order d.counts ≤ k
  pub degrees : (d : Derivative) (m : Monomial) → ¬ (coefficient (finite.value forms E d) m ≡ pos 0) → degree m ≤ suc k
