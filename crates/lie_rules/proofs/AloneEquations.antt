-- Normalised equations of one derivative, and of several, as they are kept.
use Rattle.std.specs.Prelude.{◌≡◌, suc, ◌<◌, List, [], ◌∷◌, length, get_or}
use Rattle.std.proofs.Common.{sym, ap, ◌∙◌, arith, inl, inr}
use Rattle.lie_math.specs.Counts.{Derivative}
use Rattle.lie_math.specs.LinearForm.{LinearForm}
use Rattle.lie_math.specs.Polynomial.{WholePolynomial}
use Rattle.lie_systems.specs.Normalised.{IsNormalised, derivative_alone}
use Rattle.lie_jet.specs.Derivatives.{derivative_of}
use Rattle.lie_jet.specs.declared.derivative.Der.{Der}
use Rattle.lie_lin.specs.Forms.{coefficients_of}
use Rattle.lie_steps.proofs.ZeroRule.{list-derivative_alone}
use Rattle.lie_integral.proofs.KeptTerms.{length-coefficients}

module _ (E : LinearForm) (ts : List (Der × WholePolynomial)) (is : coefficients_of ts ≡ E.list) where
  pub several_derivatives : ¬ (length ts ≡ 1) → (d : Derivative) → ¬ (E ≡ derivative_alone d)
  several_derivatives n d e =
      n (sym (length-coefficients ts) ∙ ap length is ∙ ap (λ (G : LinearForm). length G.list) e ∙ ap length (list-derivative_alone d))

abbrev first_or : Derivative → List (Derivative × WholePolynomial) → Derivative
first_or d [] = d
first_or d (e ∷ es) = e.0

pub one_derivative : (E : LinearForm) (ts : List (Der × WholePolynomial)) (x : Der × WholePolynomial) → IsNormalised E
    → coefficients_of ts ≡ E.list → length ts ≡ 1 → x ≡ get_or ts 0 x → E ≡ derivative_alone (derivative_of x.0)
one_derivative E [] x h is l g = absurd (omega arith)
one_derivative E (t ∷ ts) x (inl (d, e)) is l g =
    e ∙ ap derivative_alone (ap (first_or d) (sym (list-derivative_alone d) ∙ ap (λ (G : LinearForm). G.list) (sym e) ∙ sym is)
    ∙ ap (λ (y : Der × WholePolynomial). derivative_of y.0) (sym g))
one_derivative E (t ∷ ts) x (inr h) is l g =
    absurd (let n : length E.list ≡ suc (length ts) = ap length (sym is)
    ∙ ap suc (length-coefficients ts) in let m : 1 < length E.list = h.0 in omega arith)
