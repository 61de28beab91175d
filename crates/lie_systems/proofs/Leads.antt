-- The first derivative of a form that is not empty is its lead.
use Rattle.std.specs.Prelude.{◌≡◌, Bool, true, false, cond, T, List, [], ◌∷◌}
use Rattle.std.proofs.Common.{Less, Greater, sym, ap, subst, ◌∙◌, is_lt}
use Rattle.std.specs.Ordering.{eq_by_cmp, ordering_reverse}
use Rattle.std.specs.Cmp.{tied_itself}
use Rattle.lie_math.specs.FiniteSum as finite
use Rattle.lie_math.specs.FiniteSumLaws.{is_none_none}
use Rattle.lie_math.specs.SortedSum.{below_all}
use Rattle.lie_math.specs.Canonical.{value_at-head, value_at-below, below_less, both}
use Rattle.lie_math.specs.Polynomial.{WholePolynomial, terms, 0ᴾ}
use Rattle.lie_math.specs.Counts.{Derivative, derivative_cmp}
use Rattle.lie_math.specs.DerivativeOrder.{derivative_cmp_total, derivative_same}
use Rattle.lie_math.specs.LinearForm.{LinearForm, forms}
use Rattle.lie_math.specs.FiniteSum.{IsCanonical}
use Rattle.lie_math.proofs.CanonicalLists.{canonical_value, canonical_below}
use Rattle.lie_systems.specs.Leads.{IsLead}

first_is_lead_of : (E : LinearForm) (e : Derivative × WholePolynomial) (es : List (Derivative × WholePolynomial)) → IsCanonical forms (e ∷ es) → E.list ≡ e ∷ es → IsLead e.0 E
first_is_lead_of E e es c is = record { occurs = occurs; greatest = greatest }
  where
    below : T (below_all derivative_cmp forms.values e.0 es)
    below = canonical_below forms e es c

    at_first : finite.value forms E e.0 ≡ e.1
    at_first = ap (λ xs. Rattle.lie_math.specs.SortedSum.value_at derivative_cmp forms.values e.0 xs) is ∙ value_at-head derivative_cmp forms.values derivative_cmp_total derivative_same e es below

    occurs : ¬ (finite.value forms E e.0 ≡ 0ᴾ)
    occurs z = subst (λ b. T (Rattle.std.specs.Prelude.not b)) (ap (finite.is_none terms) (sym at_first ∙ z) ∙ is_none_none terms) (canonical_value forms e es c)

    greatest : (d : Derivative) → ¬ (finite.value forms E d ≡ 0ᴾ) → ¬ (derivative_cmp e.0 d ≡ Greater)
    greatest d n g =
        let before : derivative_cmp d e.0 ≡ Less = derivative_cmp_total.antisymm d e.0 ∙ ap ordering_reverse g in
        n (ap (λ xs. Rattle.lie_math.specs.SortedSum.value_at derivative_cmp forms.values d xs) is
        ∙ value_at-below derivative_cmp forms.values derivative_cmp_total derivative_same d (e ∷ es)
        (both _ (below_all derivative_cmp forms.values d es) (subst (λ r. T (is_lt r)) (sym before) tt) (below_less derivative_cmp forms.values derivative_cmp_total derivative_same d e.0 es before below)))

pub first_is_lead : (E : LinearForm) (e : Derivative × WholePolynomial) (es : List (Derivative × WholePolynomial)) → E.list ≡ e ∷ es → IsLead e.0 E
first_is_lead E e es is = first_is_lead_of E e es (subst (IsCanonical forms) is E.canonical) is
