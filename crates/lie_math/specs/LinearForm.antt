-- Linear forms in the derivatives of unknown functions: a finite sum of derivatives, each times a polynomial that is not 0.
use Rattle.std.specs.Prelude.{◌≡◌, ℕ, [], pos}
use Rattle.lie_math.specs.FiniteSum as finite
use Rattle.lie_math.specs.FiniteSumLaws as finite_laws
use Rattle.lie_math.specs.Counts.{Derivative, derivative_cmp, raised, derived}
use Rattle.lie_math.specs.DerivativeOrder.{derivative_cmp_total, derivative_same}
use Rattle.lie_math.specs.FiniteSum.{Shape, FiniteSum}
use Rattle.lie_math.specs.FiniteSumLaws.{values}
use Rattle.lie_math.specs.PartialDerivative.{partial}
use Rattle.lie_math.specs.Polynomial.{terms, WholePolynomial, polynomials, 0ᴾ, ◌*ᴾ◌, constant}

abbrev pub forms : Shape Derivative WholePolynomial
forms = record { order = derivative_cmp; total = derivative_cmp_total; same = derivative_same; values = finite_laws.values terms }

abbrev pub LinearForm : Type 0
LinearForm = FiniteSum forms

abbrev pub no_form : LinearForm
no_form = finite.none forms

infixl 6 ◌+ᶠ◌
abbrev pub ◌+ᶠ◌ : LinearForm → LinearForm → LinearForm
E +ᶠ G = finite.plus forms E G

-- a times a derivative
abbrev pub form_term : Derivative → WholePolynomial → LinearForm
form_term d a = finite.term forms d a

abbrev pub form_over : (Derivative → WholePolynomial → LinearForm) → LinearForm → LinearForm
form_over f E = finite.sum_over forms (finite_laws.adder forms) f E

-- the unknown n itself
abbrev pub unknown_form : ℕ → LinearForm
unknown_form n = form_term (record { unknown = n; counts = [] }) (constant (pos 1))

-- L of each coefficient
abbrev pub each_coefficient : (WholePolynomial → WholePolynomial) → LinearForm → LinearForm
each_coefficient L E = form_over (λ d a. form_term d (L a)) E

abbrev pub times_form : WholePolynomial → LinearForm → LinearForm
times_form p E = each_coefficient (λ a. p *ᴾ a) E

-- E is a polynomial that is not 0, times G
pub record IsMultipleOf (E G : LinearForm) : Type 0 where
  pub factor : WholePolynomial
  pub apart : ¬ (factor ≡ 0ᴾ)
  pub is : E ≡ times_form factor G

-- the derivative of a form by the i-th variable
unfoldable pub derive : ℕ → LinearForm → LinearForm
derive i E = form_over (λ d a. form_term d (partial i a) +ᶠ form_term (raised i d) a) E

-- what a form says of functions: each unknown is put in
unfoldable pub apply : (ℕ → WholePolynomial) → LinearForm → WholePolynomial
apply F E = finite.sum_over forms polynomials (λ d a. a *ᴾ derived F d) E
