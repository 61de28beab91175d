-- The steps of the derivative of a form.
use Rattle.std.specs.Prelude.{◌≡◌, ℕ, Bool, true, false, cond, List}
use Rattle.std.proofs.Common.{sym, ap, ap₂, subst, ◌∙◌}
use Rattle.lie_math.specs.Counts.{Derivative, raised}
use Rattle.lie_math.specs.FiniteSumLaws.{plus_assoc}
use Rattle.lie_math.specs.Limits.{absolute}
use Rattle.lie_math.specs.LinearForm.{forms, LinearForm, no_form, ◌+ᶠ◌, form_term, each_coefficient}
use Rattle.lie_math.specs.LinearSystem.{Unknown}
use Rattle.lie_math.specs.PartialDerivative.{partial}
use Rattle.lie_math.specs.Polynomial.{WholePolynomial, ◌+ᴾ◌}
use Rattle.lie_ring.specs.Causes.{IsCause}
use Rattle.lie_ring.specs.declared.failures.PolyFail.{PolyFail}
use Rattle.lie_form.specs.FormLimits.{IsFormCoefficientCause}
use Rattle.lie_jet.proofs.PolynomialBounds.{IsBound, absolute_bound}
use Rattle.lie_form.proofs.FormBounds.{at, IsFormBound, form_none, form_plain, form_sum, form_one, form_first}
use Rattle.lie_form.proofs.FormSteps.{part_cause, put_cause, first_cause, second_cause}
use Rattle.lie_steps.specs.Equations.{depends}
use Rattle.lie_normal.specs.TermSums.{raised_term, derivative_term}
use Rattle.lie_normal.proofs.Products.{partial_bound}

module _ (us : List Unknown) (i : ℕ) (d : Derivative) (a : WholePolynomial) where
  pub raised_bound : IsFormBound (raised_term us i d a) (raised_term us i d (absolute a))
  raised_bound = by (depends us d.unknown i)
    where
      by : (b : Bool) → IsFormBound (cond b (form_term (raised i d) a) no_form) (cond b (form_term (raised i d) (absolute a)) no_form)
      by true = form_one (raised i d) a (absolute a) (absolute_bound a)
      by false = form_none

  pub partial_one : IsFormBound (form_term d (partial i a)) (form_term d (partial i (absolute a)))
  partial_one = form_one d (partial i a) (partial i (absolute a)) (partial_bound i a)

  pub term_bound : IsFormBound (derivative_term us i d a) (derivative_term us i d (absolute a))
  term_bound = form_sum _ _ _ _ partial_one raised_bound

  -- ---- the derivative of the coefficient, and what is left
  pub partial_cause : (fail : PolyFail) (E : LinearForm) → IsCause fail (partial i (absolute a)) → IsFormCoefficientCause fail (each_coefficient absolute E +ᶠ derivative_term us i d (absolute a))
  partial_cause fail E cause = part_cause fail E (derivative_term us i d (absolute a)) d (partial i (absolute a)) (form_first _ _ (form_plain _ _ partial_one) (form_plain _ _ raised_bound)) cause

  pub partial_put_cause : (fail : PolyFail) (E : LinearForm) (t : WholePolynomial) → t ≡ partial i a → IsCause fail (absolute (at E d) +ᴾ absolute t) → IsFormCoefficientCause fail (each_coefficient absolute E +ᶠ derivative_term us i d (absolute a))
  partial_put_cause fail E t e cause = first_cause fail E _ _ (form_plain _ _ partial_one) (form_plain _ _ raised_bound) (put_cause fail E d t (partial i (absolute a)) (subst (λ p. IsBound p (partial i (absolute a))) (sym e) (partial_bound i a)) cause)

  pub raised_left_cause : (fail : PolyFail) (E G : LinearForm) → G ≡ E +ᶠ form_term d (partial i a) → IsFormCoefficientCause fail (each_coefficient absolute G +ᶠ raised_term us i d (absolute a)) → IsFormCoefficientCause fail (each_coefficient absolute E +ᶠ derivative_term us i d (absolute a))
  raised_left_cause fail E G e cause = second_cause fail E _ _ G _ e partial_one (form_plain _ _ raised_bound) cause

  pub derivative_sum : (E G H : LinearForm) → G ≡ E +ᶠ form_term d (partial i a) → H ≡ G +ᶠ raised_term us i d a → H ≡ E +ᶠ derivative_term us i d a
  derivative_sum E G H e h = h ∙ ap (λ K. K +ᶠ raised_term us i d a) e ∙ plus_assoc forms E (form_term d (partial i a)) (raised_term us i d a)

  -- ---- the derivative of the unknown
  pub raised_is : depends us d.unknown i ≡ true → (b : WholePolynomial) → raised_term us i d b ≡ form_term (raised i d) b
  raised_is t b = ap (λ y. cond y (form_term (raised i d) b) no_form) t

  pub raised_none : depends us d.unknown i ≡ false → (b : WholePolynomial) → raised_term us i d b ≡ no_form
  raised_none t b = ap (λ y. cond y (form_term (raised i d) b) no_form) t

  pub raised_cause : (fail : PolyFail) (E : LinearForm) (k : Derivative) (p : WholePolynomial) → depends us d.unknown i ≡ true → k ≡ raised i d → p ≡ a → IsCause fail (absolute (at E k) +ᴾ absolute p) → IsFormCoefficientCause fail (each_coefficient absolute E +ᶠ raised_term us i d (absolute a))
  raised_cause fail E k p t e h cause =
      subst (λ K. IsFormCoefficientCause fail (each_coefficient absolute E +ᶠ K)) (ap (λ (j : Derivative). form_term j (absolute a)) e ∙ sym (raised_is t (absolute a)))
      (put_cause fail E k p (absolute a) (subst (λ q. IsBound q (absolute a)) (sym h) (absolute_bound a)) cause)

  pub raised_put : (E G : LinearForm) (k : Derivative) (p : WholePolynomial) → depends us d.unknown i ≡ true → k ≡ raised i d → p ≡ a → G ≡ E +ᶠ form_term k p → G ≡ E +ᶠ raised_term us i d a
  raised_put E G k p t e h is = is ∙ ap (λ K. E +ᶠ K) (ap₂ form_term e h ∙ sym (raised_is t a))
