-- The total derivative of a polynomial times a derivative of an unknown, which is a function of the independent and the dependent
-- variables.
use Rattle.std.specs.Prelude.{ℕ, ◌+◌, replicate}
use Rattle.lie_math.specs.Counts.{Derivative, raise, raised}
use Rattle.lie_math.specs.Derivation.{numbers_below}
use Rattle.lie_math.specs.LinearForm.{LinearForm, ◌+ᶠ◌, form_term}
use Rattle.lie_math.specs.Polynomial.{WholePolynomial, ◌*ᴾ◌}
use Rattle.lie_geometry.specs.Coordinates.{Space}
use Rattle.lie_geometry.specs.Prolongation.{jet_variable, total_derivative}
use Rattle.lie_geometry.specs.SymbolicProlongation.{forms_over}

-- the polynomial times the derivative by the dependent variable b, times what b becomes
abbrev pub dependent_term : Space → ℕ → Derivative → WholePolynomial → ℕ → LinearForm
dependent_term S i d a b = form_term (raised (S.p + b) d) (a *ᴾ jet_variable S b (raise i (replicate S.p 0)))

-- the polynomial times the total derivative of d: by the variable itself, and by each dependent variable
abbrev pub derived_term : Space → ℕ → Derivative → WholePolynomial → LinearForm
derived_term S i d a = form_term (raised i d) a +ᶠ forms_over (numbers_below S.q) (dependent_term S i d a)

-- and the total derivative of the polynomial times d
abbrev pub total_of_term : Space → ℕ → Derivative → WholePolynomial → LinearForm
total_of_term S i d a = form_term d (total_derivative S i a) +ᶠ derived_term S i d a
