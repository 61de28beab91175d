-- Bounds of forms: whatever bounds a form, derivative by derivative, is past a limit where the form is.
use Rattle.std.specs.Prelude.{◌≡◌, ℕ, zero, suc, ◌≤◌, Bool, true, false, cond, eqb, List, [], ◌∷◌, take}
use Rattle.std.specs.Ordering.{eq_by_cmp}
use Rattle.std.proofs.Common.{refl, sym, ap, ap₂, subst, subst₂, ◌∙◌, arith, eqb-true, eq-eqb, true≢false}
use Rattle.lie_math.specs.Counts.{Derivative, derivative_cmp}
use Rattle.lie_math.specs.Derivation.{numbers_below}
use Rattle.lie_math.specs.FiniteSum as finite
use Rattle.lie_math.specs.FiniteSum.{IsCanonical}
use Rattle.lie_math.specs.FiniteSumLaws as finite_laws
use Rattle.lie_math.specs.FiniteSumLaws.{value-plus, value-none, value-term}
use Rattle.lie_math.specs.Limits.{absolute}
use Rattle.lie_math.specs.LinearForm.{forms, LinearForm, no_form, ◌+ᶠ◌, form_term, each_coefficient}
use Rattle.lie_math.specs.Polynomial.{WholePolynomial, 0ᴾ}
use Rattle.lie_math.specs.SortedSum.{value_at, sum_of_entries}
use Rattle.lie_math.proofs.Limits.{covered_first, covered_second, nonneg_sum}
use Rattle.lie_ring.specs.declared.failures.PolyFail.{PolyFail}
use Rattle.lie_poly.proofs.SumSteps.{cause_covered}
use Rattle.lie_geometry.specs.SymbolicProlongation.{forms_over}
use Rattle.lie_geometry.proofs.AbsoluteForms.{entry_absolutes, list_absolutes}
use Rattle.lie_form.specs.FormLimits.{IsFormCoefficientCause}
use Rattle.lie_jet.proofs.Absolutes.{absolute_twice}
use Rattle.lie_jet.proofs.PolynomialBounds.{value_at-each, absolute_none, IsBound, sum_bound, absolute_bound, covered_absolute, none_bound, plain_bound, trans_bound}

-- ---- forms
abbrev pub at : LinearForm → Derivative → WholePolynomial
at E d = finite.value forms E d

-- the coefficient of each derivative is bounded
pub record IsFormBound (E B : LinearForm) : Type 0 where
  pub each : (d : Derivative) → IsBound (at E d) (at B d)

abbrev pub IsPlain : LinearForm → Type 0
IsPlain B = IsFormBound B B

pub cause_bound : (fail : PolyFail) (E B : LinearForm) → IsFormBound E B → IsFormCoefficientCause fail E → IsFormCoefficientCause fail B
cause_bound fail E B h cause = (cause.0, cause_covered fail (at E cause.0) (at B cause.0) (h.each cause.0).covered cause.1)

pub form_trans : (E B C : LinearForm) → IsFormBound E B → IsFormBound B C → IsFormBound E C
form_trans E B C h k = record { each = λ d. trans_bound (at E d) (at B d) (at C d) (h.each d) (k.each d) }

pub form_plain : (E B : LinearForm) → IsFormBound E B → IsPlain B
form_plain E B h = record { each = λ d. plain_bound (at B d) (h.each d).plain }

pub form_sum : (E G B C : LinearForm) → IsFormBound E B → IsFormBound G C → IsFormBound (E +ᶠ G) (B +ᶠ C)
form_sum E G B C h k = record { each = λ d. subst₂ IsBound (sym (value-plus forms E G d)) (sym (value-plus forms B C d)) (sum_bound (at E d) (at G d) (at B d) (at C d) (h.each d) (k.each d)) }

pub form_none : IsPlain no_form
form_none = record { each = λ d. subst (λ p. IsBound p p) (sym (value-none forms d)) none_bound }

pub form_one : (d : Derivative) (p b : WholePolynomial) → IsBound p b → IsFormBound (form_term d p) (form_term d b)
form_one d p b h = record { each = λ k. subst₂ IsBound (sym (value-term forms d p k)) (sym (value-term forms d b k)) (by (eq_by_cmp derivative_cmp k d)) }
  where
    by : (t : Bool) → IsBound (cond t p 0ᴾ) (cond t b 0ᴾ)
    by true = h
    by false = none_bound

pub form_first : (B C : LinearForm) → IsPlain B → IsPlain C → IsFormBound B (B +ᶠ C)
form_first B C h k = record { each = λ d. subst (IsBound (at B d)) (sym (value-plus forms B C d)) (record { covered = covered_first (at B d) (at C d) (h.each d).plain (k.each d).plain; plain = nonneg_sum (at B d) (at C d) (h.each d).plain (k.each d).plain }) }

pub form_second : (B C : LinearForm) → IsPlain B → IsPlain C → IsFormBound C (B +ᶠ C)
form_second B C h k = record { each = λ d. subst (IsBound (at C d)) (sym (value-plus forms B C d)) (record { covered = covered_second (at B d) (at C d) (h.each d).plain (k.each d).plain; plain = nonneg_sum (at B d) (at C d) (h.each d).plain (k.each d).plain }) }

-- ---- sums of forms
module _ (f g : ℕ → LinearForm) where
  pub over_bound : (is : List ℕ) → ((i : ℕ) → IsFormBound (f i) (g i)) → IsFormBound (forms_over is f) (forms_over is g)
  over_bound [] h = form_none
  over_bound (i ∷ is) h = form_sum (f i) (forms_over is f) (g i) (forms_over is g) (h i) (over_bound is h)

pub fewer_bound : (g : ℕ → LinearForm) → ((i : ℕ) → IsPlain (g i)) → (b n : ℕ) → b ≤ n → IsFormBound (forms_over (numbers_below b) g) (forms_over (numbers_below n) g)
fewer_bound g h b zero k = subst (λ c. IsFormBound (forms_over (numbers_below c) g) no_form) (let e : 0 ≡ b = omega arith in e) form_none
fewer_bound g h b (suc n) k = by (λ l. fewer_bound g h b n l) (eqb b (suc n)) refl
  where
    by : (b ≤ n → IsFormBound (forms_over (numbers_below b) g) (forms_over (numbers_below n) g)) → (t : Bool) → eqb b (suc n) ≡ t → IsFormBound (forms_over (numbers_below b) g) (forms_over (numbers_below (suc n)) g)
    by rest true e = subst (λ c. IsFormBound (forms_over (numbers_below c) g) (forms_over (numbers_below (suc n)) g)) (sym (eqb-true b (suc n) e)) (over_bound g g (numbers_below (suc n)) h)
    by rest false e = form_trans _ (forms_over (numbers_below n) g) _ (rest (less (λ q. true≢false (sym (eq-eqb b (suc n) q) ∙ e)))) (form_second (g n) (forms_over (numbers_below n) g) (h n) (over_bound g g (numbers_below n) h))
      where
        less : ¬ (b ≡ suc n) → b ≤ n
        less q = omega arith

-- a sum over entries, and that of the first of them
module _ (φ : Derivative → WholePolynomial → LinearForm) where
  abbrev pub over_entries : List (Derivative × WholePolynomial) → LinearForm
  over_entries es = sum_of_entries (finite_laws.adder forms) φ es

  module _ (ψ : Derivative → WholePolynomial → LinearForm) (bound : (d : Derivative) (a : WholePolynomial) → IsFormBound (φ d a) (ψ d a)) where
    pub entries_bound : (es : List (Derivative × WholePolynomial)) → IsFormBound (over_entries es) (sum_of_entries (finite_laws.adder forms) ψ es)
    entries_bound [] = form_none
    entries_bound (e ∷ es) = form_sum (φ e.0 e.1) (over_entries es) (ψ e.0 e.1) (sum_of_entries (finite_laws.adder forms) ψ es) (bound e.0 e.1) (entries_bound es)

  module _ (plain : (d : Derivative) (a : WholePolynomial) → IsPlain (φ d a)) where
    pub front_bound : (es : List (Derivative × WholePolynomial)) (k : ℕ) → IsFormBound (over_entries (take k es)) (over_entries es)
    front_bound [] zero = form_none
    front_bound [] (suc k) = form_none
    front_bound (e ∷ es) zero = form_trans no_form (φ e.0 e.1) _ (by (φ e.0 e.1) (plain e.0 e.1)) (form_first (φ e.0 e.1) (over_entries es) (plain e.0 e.1) (entries_bound φ plain es))
      where
        by : (E : LinearForm) → IsPlain E → IsFormBound no_form E
        by E h = subst (IsFormBound no_form) (finite_laws.plus_idl forms E) (form_first no_form E form_none h)
    front_bound (e ∷ es) (suc k) = form_sum (φ e.0 e.1) (over_entries (take k es)) (φ e.0 e.1) (over_entries es) (plain e.0 e.1) (front_bound es k)

-- ---- the form with the absolute values of its numbers
-- its list has the entries with the absolute values, which are those of a form
module _ (es : List (Derivative × WholePolynomial)) (h : IsCanonical forms es) where
  listed : (each_coefficient absolute (finite.of forms es)).list ≡ entry_absolutes es
  listed = list_absolutes (finite.of forms es) ∙ ap entry_absolutes (finite_laws.list-of forms es h)

  pub canonical_entries : IsCanonical forms (entry_absolutes es)
  canonical_entries = subst (IsCanonical forms) listed (each_coefficient absolute (finite.of forms es)).canonical

  pub absolutes_form : finite.of forms (entry_absolutes es) ≡ each_coefficient absolute (finite.of forms es)
  absolutes_form = ap (finite.of forms) (sym listed) ∙ finite_laws.of_list forms (each_coefficient absolute (finite.of forms es))

pub at_absolute : (E : LinearForm) (d : Derivative) → at (each_coefficient absolute E) d ≡ absolute (at E d)
at_absolute E d = ap (value_at derivative_cmp forms.values d) (list_absolutes E) ∙ value_at-each forms absolute absolute_none d E.list E.canonical

entries_again : (es : List (Derivative × WholePolynomial)) → entry_absolutes (entry_absolutes es) ≡ entry_absolutes es
entries_again [] = refl
entries_again (e ∷ es) = ap₂ (λ (a : WholePolynomial) xs. (e.0, a) ∷ xs) (absolute_twice e.1) (entries_again es)

pub form_absolute_twice : (E : LinearForm) → each_coefficient absolute (each_coefficient absolute E) ≡ each_coefficient absolute E
form_absolute_twice E = finite_laws.same_list forms _ _ (list_absolutes (each_coefficient absolute E) ∙ ap entry_absolutes (list_absolutes E) ∙ entries_again E.list ∙ sym (list_absolutes E))

pub form_absolute : (E : LinearForm) → IsFormBound E (each_coefficient absolute E)
form_absolute E = record { each = λ d. subst (IsBound (at E d)) (sym (at_absolute E d)) (absolute_bound (at E d)) }

-- what bounds a form bounds its absolute values
pub form_absolute_bound : (E B : LinearForm) → IsFormBound E B → IsFormBound (each_coefficient absolute E) B
form_absolute_bound E B h = record { each = λ d. subst (λ p. IsBound p (at B d)) (sym (at_absolute E d)) (covered_absolute (at E d) (at B d) (h.each d)) }
