-- What holds of each coefficient of two forms holds of their sum: the jets and the orders that occur.
use Rattle.std.specs.Prelude.{◌≡◌, ℕ, ◌<◌, ◌≤◌, Bool, true, false, cond}
use Rattle.std.proofs.Common.{refl, sym, ap₂, subst, ◌∙◌, arith}
use Rattle.std.specs.Ordering.{eq_by_cmp}
use Rattle.lie_math.specs.Counts.{Derivative, derivative_cmp, order}
use Rattle.lie_math.specs.Derivation.{is_below}
use Rattle.lie_math.specs.FiniteSumLaws.{value-plus, value-none, value-term, plus_idl}
use Rattle.lie_math.specs.LinearForm.{forms, LinearForm, no_form, ◌+ᶠ◌, form_term}
use Rattle.lie_math.specs.Polynomial.{WholePolynomial, terms, 0ᴾ, ◌+ᴾ◌}
use Rattle.lie_math.specs.Variables.{IsIn}
use Rattle.lie_math.proofs.FiniteSum.{key}
use Rattle.lie_math.proofs.Variables.{in-+ᴾ, in-0ᴾ}
use Rattle.lie_geometry.specs.Coordinates.{Space, coordinates_up_to}
use Rattle.lie_form.specs.FormLimits.{HasJetsUpTo, HasOrdersUpTo}
use Rattle.lie_form.proofs.FormBounds.{at}

module _ (S : Space) (n : ℕ) where
  abbrev low : ℕ → Bool
  low = is_below (coordinates_up_to S n)

  pub jets_none : HasJetsUpTo S n no_form
  jets_none d = subst (IsIn low) (sym (value-none forms d)) (in-0ᴾ low)

  pub jets_sum : (E G : LinearForm) → HasJetsUpTo S n E → HasJetsUpTo S n G → HasJetsUpTo S n (E +ᶠ G)
  jets_sum E G h k d = subst (IsIn low) (sym (value-plus forms E G d)) (in-+ᴾ low (at E d) (at G d) (h d) (k d))

  pub jets_term : (d : Derivative) (p : WholePolynomial) → IsIn low p → HasJetsUpTo S n (form_term d p)
  jets_term d p h k = subst (IsIn low) (sym (value-term forms d p k)) (by (eq_by_cmp derivative_cmp k d))
    where
      by : (t : Bool) → IsIn low (cond t p 0ᴾ)
      by true = h
      by false = in-0ᴾ low

module _ (n : ℕ) where
  pub orders_none : HasOrdersUpTo n no_form
  orders_none d past = value-none forms d

  pub orders_sum : (E G : LinearForm) → HasOrdersUpTo n E → HasOrdersUpTo n G → HasOrdersUpTo n (E +ᶠ G)
  orders_sum E G h k d past = value-plus forms E G d ∙ ap₂ ◌+ᴾ◌ (h d past) (k d past) ∙ plus_idl terms 0ᴾ

  pub orders_term : (d : Derivative) (p : WholePolynomial) → order d.counts ≤ n → HasOrdersUpTo n (form_term d p)
  orders_term d p h k past = value-term forms d p k ∙ by (eq_by_cmp derivative_cmp k d) refl
    where
      by : (t : Bool) → eq_by_cmp derivative_cmp k d ≡ t → cond t p 0ᴾ ≡ 0ᴾ
      by true e = absurd (apart (subst (λ j. n < order j.counts) (key forms k d e) past))
        where
          apart : n < order d.counts → ⊥
          apart q = omega arith
      by false e = refl
