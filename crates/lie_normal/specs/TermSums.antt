-- What one term of a form gives to a sum: its derivative, or a multiple of it.
use Rattle.std.specs.Prelude.{ℕ, cond, List}
use Rattle.lie_math.specs.Counts.{Derivative, raised}
use Rattle.lie_math.specs.Limits.{absolute}
use Rattle.lie_math.specs.LinearForm.{LinearForm, no_form, ◌+ᶠ◌, form_term, times_form}
use Rattle.lie_math.specs.LinearSystem.{Unknown}
use Rattle.lie_math.specs.PartialDerivative.{partial}
use Rattle.lie_math.specs.Polynomial.{WholePolynomial, ◌*ᴾ◌}
use Rattle.lie_steps.specs.Bulks.{absolute_form}
use Rattle.lie_steps.specs.Equations.{depends}

-- ---- derivatives
-- a times the derivative of d by the i-th variable, where its unknown depends on that
abbrev pub raised_term : List Unknown → ℕ → Derivative → WholePolynomial → LinearForm
raised_term unknowns i d a = cond (depends unknowns d.unknown i) (form_term (raised i d) a) no_form

-- the derivative of a times d
abbrev pub derivative_term : List Unknown → ℕ → Derivative → WholePolynomial → LinearForm
derivative_term unknowns i d a = form_term d (partial i a) +ᶠ raised_term unknowns i d a

-- ---- multiples
-- p times a times d
abbrev pub multiple_term : WholePolynomial → Derivative → WholePolynomial → LinearForm
multiple_term p d a = form_term d (p *ᴾ a)

-- p times E and q times L, added up
abbrev pub multiples : WholePolynomial → LinearForm → WholePolynomial → LinearForm → LinearForm
multiples p E q L = times_form p E +ᶠ times_form q L

abbrev pub multiples_bulk : WholePolynomial → LinearForm → WholePolynomial → LinearForm → LinearForm
multiples_bulk p E q L = multiples (absolute p) (absolute_form E) (absolute q) (absolute_form L)
