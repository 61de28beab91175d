-- The prolongation of the field whose components are the unknown functions 1, 2 and so on of all z. A form has jet polynomials as its
-- coefficients.
use Rattle.std.specs.Prelude.{ℕ, suc, ◌+◌, List, [], ◌∷◌, replicate, negsuc}
use Rattle.lie_math.specs.Counts.{raise, raised}
use Rattle.lie_math.specs.Derivation.{numbers_below}
use Rattle.lie_math.specs.LinearForm.{LinearForm, no_form, ◌+ᶠ◌, form_term, form_over, unknown_form, times_form}
use Rattle.lie_math.specs.PartialDerivative.{partial}
use Rattle.lie_math.specs.Polynomial.{WholePolynomial, ◌*ᴾ◌, constant}
use Rattle.lie_geometry.specs.Coordinates.{Space, Coordinate, independent, jet, coordinates_up_to, coordinate}
use Rattle.lie_geometry.specs.Invariance.{greatest_order}
use Rattle.lie_geometry.specs.Prolongation.{indices, jet_variable, total_derivative, counts_of_indices}
use Rattle.lie_geometry.specs.SolvedEquations.{SolvedEquation, difference}

abbrev pub forms_over : List ℕ → (ℕ → LinearForm) → LinearForm
forms_over [] f = no_form
forms_over (i ∷ is) f = f i +ᶠ forms_over is f

-- the unknown that stands for the component s
abbrev pub unknown : ℕ → LinearForm
unknown s = unknown_form (suc s)

module _ (S : Space) where
  -- the total derivative, at each a times a derivative d of an unknown: d is a function of z
  unfoldable pub symbolic_total : ℕ → LinearForm → LinearForm
  symbolic_total i E = form_over (λ d a. form_term d (total_derivative S i a) +ᶠ form_term (raised i d) a +ᶠ forms_over (numbers_below S.q)
      (λ b. form_term (raised (S.p + b) d) (a *ᴾ jet_variable S b (raise i (replicate S.p 0))))) E

  unfoldable pub symbolic_coefficient : ℕ → List ℕ → LinearForm
  symbolic_coefficient a [] = unknown (S.p + a)
  symbolic_coefficient a (k ∷ W) = symbolic_total k (symbolic_coefficient a W)
      +ᶠ times_form (constant (negsuc 0)) (forms_over (numbers_below S.p)
      (λ i. times_form (jet_variable S a (raise i (counts_of_indices S W))) (symbolic_total k (unknown i))))

  abbrev pub symbolic_coefficient_at : Coordinate → LinearForm
  symbolic_coefficient_at (independent i) = unknown i
  symbolic_coefficient_at (jet a J) = symbolic_coefficient a (indices J)

  unfoldable pub symbolic_application : List SolvedEquation → SolvedEquation → LinearForm
  symbolic_application equations equation = forms_over (numbers_below (coordinates_up_to S (greatest_order S equations)))
      (λ w. times_form (partial w (difference equation)) (symbolic_coefficient_at (coordinate S w)))

-- the field whose components are the functions put in for the unknowns 1, 2 and so on
abbrev pub field_of : (ℕ → WholePolynomial) → ℕ → WholePolynomial
field_of F s = F (suc s)
