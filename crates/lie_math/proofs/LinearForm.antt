-- The laws of linear forms: what a sum, a multiple, a derivative of forms says.
use Rattle.std.specs.Prelude.{◌≡◌, ℕ, []}
use Rattle.std.proofs.Common.{sym, ap, ap₂, ◌∙◌}
use mathlib.Core.Path.{fun_ext}
use Rattle.lie_math.specs.FiniteSumLaws as finite_laws
use Rattle.lie_math.specs.Canonical.{sum_of_entries-map, Additive}
use Rattle.lie_math.specs.Counts.{Derivative, raised, derived}
use Rattle.lie_math.specs.FiniteSumLaws.{sum-none, sum-term, sum-plus}
use Rattle.lie_math.specs.LinearForm.{forms, LinearForm, no_form, ◌+ᶠ◌, form_term, form_over, unknown_form, each_coefficient, times_form, derive, apply}
use Rattle.lie_math.specs.PartialDerivative.{partial}
use Rattle.lie_math.specs.Polynomial.{WholePolynomial, 0ᴾ, ◌+ᴾ◌, polynomials, ◌*ᴾ◌}
use Rattle.lie_math.specs.PolynomialRing.{+ᴾ-*ᴾ, *ᴾ-dist, *ᴾ_assoc, one-*ᴾ, polynomial_ring}
use Rattle.lie_math.specs.SortedSum.{sum_of_entries}
use Rattle.lie_math.proofs.Counts.{partials_raise, partials_none}
use Rattle.lie_math.proofs.LinearMap.{IsAdditive}
use Rattle.lie_math.proofs.PartialDerivative.{partial-+ᴾ, partial-0ᴾ, partial-*ᴾ}
use Rattle.lie_math.proofs.Ring.{times_nil, nil_times}

module _ (F : ℕ → WholePolynomial) where
  pub apply_additive : Additive polynomials polynomials (λ (d : Derivative) a. a *ᴾ derived F d)
  apply_additive = record { on_nil = λ d. nil_times polynomial_ring (derived F d); on_plus = λ d a b. +ᴾ-*ᴾ a b (derived F d) }

  pub apply_plus : (E G : LinearForm) → apply F (E +ᶠ G) ≡ apply F E +ᴾ apply F G
  unfolding apply
  apply_plus E G = sum-plus forms polynomials _ apply_additive E G

  pub apply_term : (d : Derivative) (a : WholePolynomial) → apply F (form_term d a) ≡ a *ᴾ derived F d
  unfolding apply
  apply_term d a = sum-term forms polynomials _ apply_additive d a

  pub apply_none : apply F no_form ≡ 0ᴾ
  unfolding apply
  apply_none = sum-none forms polynomials _ apply_additive

  pub apply_unknown : (n : ℕ) → apply F (unknown_form n) ≡ F n
  apply_unknown n = apply_term (record { unknown = n; counts = [] }) _ ∙ one-*ᴾ _ ∙ partials_none (F n)

  -- a sum of forms, one for each entry
  pub apply_over : (f : Derivative → WholePolynomial → LinearForm) (E : LinearForm) → apply F (form_over f E) ≡ sum_of_entries polynomials (λ d a. apply F (f d a)) E.list
  apply_over f E = sum_of_entries-map (finite_laws.adder forms) polynomials (apply F) apply_none apply_plus f E.list

  -- an additive map that leaves the derivatives of the functions, entry by entry
  pub apply_each : {L : WholePolynomial → WholePolynomial} → IsAdditive L → ((d : Derivative) (a : WholePolynomial) → L (a *ᴾ derived F d) ≡ L a *ᴾ derived F d) → (E : LinearForm) → apply F (each_coefficient L E) ≡ L (apply F E)
  unfolding apply
  apply_each {L} linear out E =
      apply_over (λ d a. form_term d (L a)) E
      ∙ ap (λ φ. sum_of_entries polynomials φ E.list) (fun_ext (λ d. fun_ext (λ a. apply_term d (L a) ∙ sym (out d a))))
      ∙ sym (sum_of_entries-map polynomials polynomials L linear.none linear.plus (λ d a. a *ᴾ derived F d) E.list)

  pub apply_times : (p : WholePolynomial) (E : LinearForm) → apply F (times_form p E) ≡ p *ᴾ apply F E
  apply_times p E = apply_each (times_linear p) (λ d a. sym (*ᴾ_assoc p a (derived F d))) E
    where
      times_linear : (p : WholePolynomial) → IsAdditive (λ a. p *ᴾ a)
      times_linear p = record { none = times_nil polynomial_ring p; plus = *ᴾ-dist p }

  -- the derivative of a form says the derivative of what the form says
  pub apply_derive : (i : ℕ) (E : LinearForm) → apply F (derive i E) ≡ partial i (apply F E)
  unfolding derive apply
  apply_derive i E =
      apply_over (λ d a. form_term d (partial i a) +ᶠ form_term (raised i d) a) E
      ∙ ap (λ φ. sum_of_entries polynomials φ E.list) (fun_ext (λ d. fun_ext (λ a.
      apply_plus (form_term d (partial i a)) (form_term (raised i d) a)
      ∙ ap₂ ◌+ᴾ◌ (apply_term d (partial i a)) (apply_term (raised i d) a ∙ ap (λ q. a *ᴾ q) (partials_raise i d.counts (F d.unknown)))
      ∙ sym (partial-*ᴾ i a (derived F d)))))
      ∙ sym (sum_of_entries-map polynomials polynomials (partial i) (partial-0ᴾ i) (partial-+ᴾ i) (λ d a. a *ᴾ derived F d) E.list)
