-- Sums in which nothing is lost: multiples by 1 and -1, and forms that have no derivative in common.
use Rattle.std.specs.Prelude.{◌≡◌, ◌⊎◌, List, [], ◌∷◌, ℤ, pos, unsigned_abs}
use Rattle.std.proofs.Common.{refl, sym, ap, ap₂, ◌∙◌, inl, inr, arith}
use Rattle.lie_math.specs.Counts.{Derivative}
use Rattle.lie_math.specs.FiniteSum as finite
use Rattle.lie_math.specs.FiniteSumLaws as finite_laws
use Rattle.lie_math.specs.FiniteSumLaws.{ext, value-plus, plus_idl, plus_comm, sum_of_terms, of_list}
use Rattle.lie_math.specs.Limits.{absolute, absolutes}
use Rattle.lie_math.specs.LinearForm.{LinearForm, forms, no_form, ◌+ᶠ◌, form_term, form_over, each_coefficient, times_form}
use Rattle.lie_math.specs.Monomial.{unit}
use Rattle.lie_math.specs.Polynomial.{WholePolynomial, terms, polynomial_of, constant, 0ᴾ, ◌+ᴾ◌, ◌*ᴾ◌}
use Rattle.lie_math.specs.PolynomialRing.{one-*ᴾ}
use Rattle.lie_math.proofs.Limits.{absolute_of, term_apart}
use Rattle.lie_math.proofs.TermWise.{times_list, polynomial_of-times, canonical_times, absolutes-times}
use Rattle.lie_systems.proofs.Triples.{each_times, list-times_form, times_form-none}
use Rattle.lie_jet.proofs.PolynomialBounds.{absolute_none}
use Rattle.lie_jet.proofs.TotalBounds.{absolute_term}
use Rattle.lie_form.proofs.FormBounds.{at, at_absolute}
use Rattle.lie_geometry.proofs.AbsoluteForms.{entry_absolutes}
use Rattle.lie_jet.specs.declared.derivative.Der.{Der}
use Rattle.lie_lin.specs.Forms.{coefficients_of}
use Rattle.lie_normal.specs.TermSums.{multiples, multiples_bulk}
use Rattle.lie_normal.proofs.AbsoluteForms.{absolute_form_is, list-absolute_form}
use Rattle.lie_steps.specs.Bulks.{absolute_form}

pub times_one : (E : LinearForm) → times_form (constant (pos 1)) E ≡ E
times_one E = (λ i. form_over (λ d a. form_term d (one-*ᴾ a i)) E) ∙ sum_of_terms forms E

-- ---- a number of size 1
module _ (s : ℤ) (one : unsigned_abs s ≡ 1) where
  s_apart : ¬ (s ≡ pos 0)
  s_apart z = absurd (let e : unsigned_abs s ≡ 0 = ap unsigned_abs z in omega arith)

  pub absolute_unit : absolute (constant s) ≡ constant (pos 1)
  absolute_unit = absolute_term unit s one

  absolute_times : (p : WholePolynomial) → absolute (constant s *ᴾ p) ≡ absolute p
  unfolding absolute
  absolute_times p =
      ap absolute (ap (λ q. constant s *ᴾ q) (sym (of_list terms p)) ∙ sym (polynomial_of-times unit s p.list))
      ∙ absolute_of (times_list unit s p.list) (canonical_times unit s p.list s_apart p.canonical)
      ∙ ap polynomial_of (absolutes-times unit s p.list ∙ ap (λ n. times_list unit (pos n) (absolutes p.list)) one)
      ∙ polynomial_of-times unit (pos 1) (absolutes p.list) ∙ one-*ᴾ (polynomial_of (absolutes p.list))

  same_sizes : (es : List (Derivative × WholePolynomial)) → entry_absolutes (each_times (constant s) es) ≡ entry_absolutes es
  same_sizes [] = refl
  same_sizes (e ∷ es) = ap₂ (λ (a : WholePolynomial) xs. (e.0, a) ∷ xs) (absolute_times e.1) (same_sizes es)

  -- the sizes of the multiple are those of the form
  pub absolute_multiple : (E : LinearForm) → absolute_form (times_form (constant s) E) ≡ absolute_form E
  absolute_multiple E =
      finite_laws.same_list forms _ _
      (list-absolute_form (times_form (constant s) E) ∙ ap entry_absolutes (list-times_form (constant s) (term_apart unit s s_apart) E)
      ∙ same_sizes E.list ∙ sym (list-absolute_form E))

  no_absolutes : absolute_form no_form ≡ no_form
  unfolding finite.none finite.of
  no_absolutes = refl

  -- with nothing added
  pub multiple_alone : (E : LinearForm) → multiples (constant s) E (constant s) no_form ≡ times_form (constant s) E
  multiple_alone E = ap (λ F. times_form (constant s) E +ᶠ F) (times_form-none (constant s)) ∙ plus_comm forms _ no_form ∙ plus_idl forms _

  pub multiple_bulk_alone : (E : LinearForm)
      → multiples_bulk (constant s) E (constant s) no_form ≡ absolute_form (times_form (constant s) E)
  multiple_bulk_alone E =
      ap₂ (λ F G. F +ᶠ G) (ap (λ q. times_form q (absolute_form E)) absolute_unit ∙ times_one (absolute_form E))
      (ap (λ F. times_form (absolute (constant s)) F) no_absolutes ∙ times_form-none (absolute (constant s)))
      ∙ plus_comm forms _ no_form ∙ plus_idl forms _ ∙ sym (absolute_multiple E)

-- ---- forms without a common derivative
pub sum_plain : (E F : LinearForm) → multiples (constant (pos 1)) E (constant (pos 1)) F ≡ E +ᶠ F
sum_plain E F = ap₂ ◌+ᶠ◌ (times_one E) (times_one F)

module _ (E F : LinearForm) (apart : (d : Derivative) → (at E d ≡ 0ᴾ) ⊎ (at F d ≡ 0ᴾ)) where
  absolute_sum_at : (p q : WholePolynomial) → (p ≡ 0ᴾ) ⊎ (q ≡ 0ᴾ) → absolute (p +ᴾ q) ≡ absolute p +ᴾ absolute q
  absolute_sum_at p q (inl z) = ap absolute (ap (λ x. x +ᴾ q) z ∙ plus_idl terms q)
      ∙ sym (ap (λ x. x +ᴾ absolute q) (ap absolute z ∙ absolute_none) ∙ plus_idl terms (absolute q))
  absolute_sum_at p q (inr z) =
      ap absolute (ap (λ x. p +ᴾ x) z ∙ plus_comm terms p 0ᴾ ∙ plus_idl terms p)
      ∙ sym (ap (λ x. absolute p +ᴾ x) (ap absolute z ∙ absolute_none) ∙ plus_comm terms (absolute p) 0ᴾ ∙ plus_idl terms (absolute p))

  pub absolute_sum : absolute_form E +ᶠ absolute_form F ≡ absolute_form (E +ᶠ F)
  absolute_sum =
      ap₂ ◌+ᶠ◌ (absolute_form_is E) (absolute_form_is F)
      ∙ ext forms _ _ (λ d.
      value-plus forms (each_coefficient absolute E) (each_coefficient absolute F) d ∙ ap₂ ◌+ᴾ◌ (at_absolute E d) (at_absolute F d)
      ∙ sym (at_absolute (E +ᶠ F) d ∙ ap absolute (value-plus forms E F d) ∙ absolute_sum_at (at E d) (at F d) (apart d)))
      ∙ sym (absolute_form_is (E +ᶠ F))

  pub sum_bulk : multiples_bulk (constant (pos 1)) E (constant (pos 1)) F ≡ absolute_form (E +ᶠ F)
  sum_bulk = ap₂ ◌+ᶠ◌ (ap (λ q. times_form q (absolute_form E)) (absolute_unit (pos 1) refl) ∙ times_one (absolute_form E))
      (ap (λ q. times_form q (absolute_form F)) (absolute_unit (pos 1) refl) ∙ times_one (absolute_form F)) ∙ absolute_sum

-- a form without terms
pub empty_form : (F : LinearForm) (ts : List (Der × WholePolynomial)) → F ≡ finite.of forms (coefficients_of ts) → ts ≡ [] → F ≡ no_form
unfolding finite.none
empty_form F ts e h = e ∙ ap (λ us. finite.of forms (coefficients_of us)) h
