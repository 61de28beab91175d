-- An unknown replaced, term by term.
use Rattle.std.specs.Prelude.{◌≡◌, ℕ, ◌+◌, ◌<◌, Bool, true, false, cond, eqb, List, [], ◌∷◌, length, take, pos}
use Rattle.std.proofs.Common.{refl, sym, ap, ap₂, subst, subst₂, ◌∙◌, get_or}
use Rattle.std.specs.List.{AllByRecursion as Every}
use Rattle.lie_math.proofs.EveryElement.{every-weaken}
use Rattle.lie_math.specs.Canonical.{Additive}
use Rattle.lie_math.specs.Counts.{Derivative}
use Rattle.lie_math.specs.FiniteSum as finite
use Rattle.lie_math.specs.FiniteSumLaws as finite_laws
use Rattle.lie_math.specs.FiniteSumLaws.{term_additive, sum-none, sum-plus, sum-term}
use Rattle.lie_math.specs.Limits.{absolute, IsWithinLimits}
use Rattle.lie_math.specs.LinearForm.{forms, LinearForm, ◌+ᶠ◌, form_term, each_coefficient, times_form}
use Rattle.lie_math.specs.LinearSystem.{Unknown}
use Rattle.lie_math.specs.Monomial.{unit}
use Rattle.lie_math.specs.Polynomial.{WholePolynomial, polynomials, constant, 0ᴾ, ◌+ᴾ◌, ◌*ᴾ◌}
use Rattle.lie_math.specs.PolynomialRing.{polynomial_ring, *ᴾ-dist}
use Rattle.lie_math.proofs.Limits.{IsNonNegative}
use Rattle.lie_math.proofs.Ring.{times_nil}
use Rattle.lie_ring.specs.Causes.{IsCause}
use Rattle.lie_ring.specs.declared.failures.PolyFail.{PolyFail}
use Rattle.lie_jet.specs.Derivatives.{derivative_of}
use Rattle.lie_jet.specs.declared.derivative.Der.{Der}
use Rattle.lie_jet.proofs.Absolutes.{absolute_twice}
use Rattle.lie_jet.proofs.PolynomialBounds.{IsBound, plain_bound, absolute_bound}
use Rattle.lie_form.specs.DerivativeTerms.{derivative_terms}
use Rattle.lie_form.specs.FormLimits.{IsFormCoefficientCause}
use Rattle.lie_form.proofs.FormBounds.{IsFormBound, IsPlain, form_plain, form_one, form_second, form_sum, form_trans, form_absolute, over_entries, entries_bound, front_bound, form_absolute_bound}
use Rattle.lie_geometry.proofs.AbsoluteForms.{entry_absolutes, list_absolutes}
use Rattle.lie_form.proofs.FormSteps.{over_absolutes, entries_step, part_cause, put_cause}
use Rattle.lie_steps.specs.Bulks.{absolute_form}
use Rattle.lie_steps.specs.Derivatives.{derivatives}
use Rattle.lie_steps.specs.Replacement.{put_in, put_in_bulk}
use Rattle.lie_replace.specs.Growing.{FormLasts, IsGrownCause, IsPartCause}
use Rattle.lie_normal.specs.Orders.{Entry}
use Rattle.lie_replace.specs.Replacing.{variables_of, derivatives_by, form_of, put_in_term, lasting_part, lasting_entries}
use Rattle.lie_normal.specs.TermSums.{multiple_term}
use Rattle.lie_normal.proofs.AbsoluteForms.{absolute_form_is, list-absolute_form}
use Rattle.lie_replace.proofs.CarriedCauses.{coefficient_part, grown_part, part_bound, multiple_grown}
use Rattle.lie_replace.proofs.DerivativeBounds.{over_plain, over_monotone, derivatives_by_plain, derivatives_by_bounded}
use Rattle.lie_replace.proofs.DerivativesBy.{derivatives-by}
use Rattle.lie_normal.proofs.DerivedForms.{none_bounded}
use Rattle.lie_replace.proofs.GrowingCoefficients.{plain_same, term_plain, times_plain}
use Rattle.lie_replace.proofs.IteratedSteps.{form_of_list, form_of_sizes, entries_bounded}
use Rattle.lie_replace.proofs.LastingEntries.{derivatives_kept, sizes_kept, kept_lasts, kept_apart}
use Rattle.lie_normal.proofs.MultipleSteps.{term_bound}
use Rattle.lie_normal.proofs.Products.{times_bound}

-- ---- multiples
module _ (p : WholePolynomial) where
  multiple_additive : Additive polynomials (finite_laws.adder forms) (multiple_term p)
  multiple_additive = record {
    on_nil = λ d. ap (form_term d) (times_nil polynomial_ring p) ∙ (term_additive forms).on_nil d;
    on_plus = λ d a b. ap (form_term d) (*ᴾ-dist p a b) ∙ (term_additive forms).on_plus d (p *ᴾ a) (p *ᴾ b);
  }

  pub times_entries : (es : List Entry) → over_entries (multiple_term p) es ≡ times_form p (form_of es)
  times_entries [] = sym (sum-none forms (finite_laws.adder forms) (multiple_term p) multiple_additive)
  times_entries (e ∷ es) =
      ap₂ ◌+ᶠ◌ (sym (sum-term forms (finite_laws.adder forms) (multiple_term p) multiple_additive e.0 e.1)) (times_entries es)
      ∙ sym (sum-plus forms (finite_laws.adder forms) (multiple_term p) multiple_additive (form_term e.0 e.1) (form_of es))

  pub times_form_plain : IsNonNegative p → (X : LinearForm) → IsPlain X → IsPlain (times_form p X)
  times_form_plain h X k = over_plain (multiple_term p) (λ d a n. form_one d (p *ᴾ a) (p *ᴾ a) (plain_bound (p *ᴾ a) (times_plain p a h n))) X k

  -- a multiple of what bounds a form
  pub times_monotone : IsNonNegative p → (E B : LinearForm) → IsFormBound E B → IsFormBound (times_form p E) (times_form p B)
  times_monotone h E B k =
      over_monotone E B k (multiple_term p) multiple_additive (λ d a n. form_one d (p *ᴾ a) (p *ᴾ a) (plain_bound (p *ᴾ a) (times_plain p a h n)))
      (λ d a. form_one d (p *ᴾ a) (p *ᴾ absolute a) (subst (λ q. IsBound (p *ᴾ a) (q *ᴾ absolute a)) (plain_same p h) (times_bound p a)))

plain_absolute : (p : WholePolynomial) → IsNonNegative (absolute p)
plain_absolute p = (absolute_bound p).plain

-- the multiple of a form is bounded by that of its bound, with absolute values
pub times_form_bound : (p : WholePolynomial) (E B : LinearForm) → IsFormBound E B → IsFormBound (times_form p E) (times_form (absolute p) B)
times_form_bound p E B h =
    form_trans (times_form p E) (times_form (absolute p) (each_coefficient absolute E)) (times_form (absolute p) B)
    (subst (IsFormBound (times_form p E)) (sym (ap (over_entries (multiple_term (absolute p))) (list_absolutes E) ∙ over_absolutes (multiple_term (absolute p)) E.list)) (entries_bound (multiple_term p) (λ d a. multiple_term (absolute p) d (absolute a)) (term_bound p) E.list))
    (times_monotone (absolute p) (plain_absolute p) (each_coefficient absolute E) B (form_absolute_bound E B h))

-- ---- what a term becomes
module _ (us : List Unknown) where
  derivatives_bounded : (K : List ℕ) (E B : LinearForm) → IsFormBound E B → IsFormBound (derivatives us K E) (derivatives us K B)
  derivatives_bounded K E B h = subst₂ IsFormBound (sym (derivatives-by us K E)) (sym (derivatives-by us K B)) (derivatives_by_bounded us (variables_of K) E B h)

  constant_plain : (n : ℕ) → IsNonNegative (constant (pos n))
  constant_plain n = term_plain unit (pos n) refl

  pub scaled_bound : (L : ℕ) (a : WholePolynomial) → IsBound (constant (pos L) *ᴾ a) (constant (pos L) *ᴾ absolute a)
  scaled_bound L a = subst (λ q. IsBound (constant (pos L) *ᴾ a) (q *ᴾ absolute a)) (plain_same (constant (pos L)) (constant_plain L)) (times_bound (constant (pos L)) a)

  pub put_bound : (f : ℕ) (W B : LinearForm) (L : ℕ) → IsFormBound W B → (d : Derivative) (a : WholePolynomial) → IsFormBound (put_in_term us f W L d a) (put_in_term us f B L d (absolute a))
  put_bound f W B L h d a = by (eqb d.unknown f)
    where
      by : (t : Bool) → IsFormBound (cond t (times_form a (derivatives us d.counts W)) (form_term d (constant (pos L) *ᴾ a))) (cond t (times_form (absolute a) (derivatives us d.counts B)) (form_term d (constant (pos L) *ᴾ absolute a)))
      by true = times_form_bound a (derivatives us d.counts W) (derivatives us d.counts B) (derivatives_bounded d.counts W B h)
      by false = form_one d (constant (pos L) *ᴾ a) (constant (pos L) *ᴾ absolute a) (scaled_bound L a)

  -- ---- the derivatives of the lasting terms
  module _ (K vs : List ℕ) (is : vs ≡ variables_of K) (es kept : List Entry) (all : kept ≡ lasting_entries us vs es) where
    pub lasting_derivatives : derivatives_by us vs (form_of kept) ≡ derivatives us K (form_of es)
    lasting_derivatives = ap (λ xs. derivatives_by us vs (form_of xs)) all ∙ derivatives_kept us vs es ∙ ap (λ ws. derivatives_by us ws (form_of es)) is ∙ sym (derivatives-by us K (form_of es))

    pub lasting_sizes : derivatives_by us vs (form_of (entry_absolutes kept)) ≡ derivatives us K (form_of (entry_absolutes es))
    lasting_sizes =
        ap (λ xs. derivatives_by us vs (form_of (entry_absolutes xs))) all ∙ ap (λ xs. derivatives_by us vs (form_of xs)) (sizes_kept us vs es) ∙ derivatives_kept us vs (entry_absolutes es)
        ∙ ap (λ ws. derivatives_by us ws (form_of (entry_absolutes es))) is ∙ sym (derivatives-by us K (form_of (entry_absolutes es)))

    pub lasting_apart : Every (λ (e : Entry). ¬ (e.1 ≡ 0ᴾ)) kept
    lasting_apart = subst (Every (λ (e : Entry). ¬ (e.1 ≡ 0ᴾ))) (sym all) (kept_apart us vs es)

    pub lasting_lasts : Every (λ (e : Entry). IsWithinLimits (lasting_part us vs (e.0).unknown e.1)) es → FormLasts us vs (form_of (entry_absolutes kept))
    lasting_lasts w =
        subst (λ xs. FormLasts us vs (form_of (entry_absolutes xs))) (sym all)
        (kept_lasts us vs es (every-weaken (λ (e : Entry). IsWithinLimits (lasting_part us vs (e.0).unknown e.1)) _ (λ e h m n. h.exponents m n) es w))

  -- ---- a multiple of derivatives, added to a sum
  module _ (E : LinearForm) (a : WholePolynomial) (X : LinearForm) where
    pub derived_told : (fail : PolyFail) → ¬ (a ≡ 0ᴾ) → IsPlain X → IsGrownCause fail X → IsPartCause fail (each_coefficient absolute E +ᶠ times_form (absolute a) X)
    derived_told fail n p c =
        part_bound fail (times_form (absolute a) X) (each_coefficient absolute E +ᶠ times_form (absolute a) X)
        (form_second (each_coefficient absolute E) (times_form (absolute a) X) (form_plain _ _ (form_absolute E)) (times_form_plain (absolute a) (plain_absolute a) X p))
        (grown_part fail (times_form (absolute a) X) (multiple_grown (absolute a) apart (plain_absolute a) X p fail c))
      where
        apart : ¬ (absolute a ≡ 0ᴾ)
        apart z = n (none a (absolute_bound a) z)
          where
            none : (a : WholePolynomial) → IsBound a (absolute a) → absolute a ≡ 0ᴾ → a ≡ 0ᴾ
            none a h z = none_bounded a (subst (IsBound a) z h)

    pub multiple_told : (fail : PolyFail) (ds : List Entry) → IsFormBound (form_of (entry_absolutes ds)) X → IsFormCoefficientCause fail (each_coefficient absolute E +ᶠ over_entries (λ d b. multiple_term (absolute a) d (absolute b)) ds)
        → IsPartCause fail (each_coefficient absolute E +ᶠ times_form (absolute a) X)
    multiple_told fail ds h c =
        part_bound fail (each_coefficient absolute E +ᶠ over_entries (λ d b. multiple_term (absolute a) d (absolute b)) ds) (each_coefficient absolute E +ᶠ times_form (absolute a) X)
        (form_sum (each_coefficient absolute E) (over_entries (λ d b. multiple_term (absolute a) d (absolute b)) ds) (each_coefficient absolute E) (times_form (absolute a) X) (form_plain _ _ (form_absolute E))
        (subst (λ G. IsFormBound G (times_form (absolute a) X)) (sym (sym (over_absolutes (multiple_term (absolute a)) ds) ∙ times_entries (absolute a) (entry_absolutes ds))) (times_monotone (absolute a) (plain_absolute a) (form_of (entry_absolutes ds)) X h)))
        (coefficient_part fail _ c)

  pub multiple_sum : (E F : LinearForm) (a : WholePolynomial) (ds : List Entry) (X : LinearForm) → F ≡ E +ᶠ over_entries (multiple_term a) ds → form_of ds ≡ X → F ≡ E +ᶠ times_form a X
  multiple_sum E F a ds X is h = is ∙ ap (λ G. E +ᶠ G) (times_entries a ds ∙ ap (times_form a) h)

  pub derivatives_plain : (K : List ℕ) (es : List Entry) → IsPlain (derivatives us K (form_of (entry_absolutes es)))
  derivatives_plain K es = subst IsPlain (sym (derivatives-by us K (form_of (entry_absolutes es)))) (derivatives_by_plain us (variables_of K) (form_of (entry_absolutes es)) (form_plain _ _ (entries_bounded es)))

  -- ---- a multiple of another derivative
  module _ (f : ℕ) (W : LinearForm) (L : ℕ) (E : LinearForm) (d : Derivative) (a : WholePolynomial) (other : eqb d.unknown f ≡ false) where
    pub other_is : (b : WholePolynomial) → form_term d (constant (pos L) *ᴾ b) ≡ put_in_term us f W L d b
    other_is b = ap (λ t. cond t (times_form b (derivatives us d.counts W)) (form_term d (constant (pos L) *ᴾ b))) (sym other)

    pub scaled_told : (fail : PolyFail) → IsCause fail (constant (pos L) *ᴾ absolute a) → IsPartCause fail (each_coefficient absolute E +ᶠ put_in_term us f W L d (absolute a))
    scaled_told fail c =
        subst (λ G. IsPartCause fail (each_coefficient absolute E +ᶠ G)) (other_is (absolute a))
        (coefficient_part fail _ (part_cause fail E (form_term d (constant (pos L) *ᴾ absolute a)) d (constant (pos L) *ᴾ absolute a) (form_plain _ _ (form_one d _ _ (scaled_bound L a))) c))

    pub put_told : (fail : PolyFail) (p : WholePolynomial) → p ≡ constant (pos L) *ᴾ a → IsCause fail (absolute (finite.value forms E d) +ᴾ absolute p) → IsPartCause fail (each_coefficient absolute E +ᶠ put_in_term us f W L d (absolute a))
    put_told fail p is c =
        subst (λ G. IsPartCause fail (each_coefficient absolute E +ᶠ G)) (other_is (absolute a))
        (coefficient_part fail _ (put_cause fail E d p (constant (pos L) *ᴾ absolute a) (subst (λ q. IsBound q (constant (pos L) *ᴾ absolute a)) (sym is) (scaled_bound L a)) c))

-- ---- the terms one after the other
module _ (φ ψ : Derivative → WholePolynomial → LinearForm) (bound : (d : Derivative) (a : WholePolynomial) → IsFormBound (φ d a) (ψ d a)) where
  pub part_told : (fail : PolyFail) (G : LinearForm) (ts : List (Der × WholePolynomial)) (k : ℕ) (x : Der × WholePolynomial) → k < length ts → x ≡ get_or ts k x → G ≡ over_entries φ (take k (derivative_terms ts))
      → IsPartCause fail (each_coefficient absolute G +ᶠ ψ (derivative_of x.0) x.1) → IsPartCause fail (over_entries ψ (derivative_terms ts))
  part_told fail G ts k x h e is c =
      part_bound fail _ _
      (form_trans _ _ _ (subst (IsFormBound _) (sym (entries_step ψ ts k x h e)) (form_sum _ _ _ _ (form_absolute_bound G _ (subst (λ K. IsFormBound K (over_entries ψ (take k (derivative_terms ts)))) (sym is) (entries_bound φ ψ bound (take k (derivative_terms ts))))) (form_plain _ _ (bound (derivative_of x.0) x.1))))
      (front_bound ψ (λ d a. form_plain _ _ (bound d a)) (derivative_terms ts) (k + 1))) c

-- ---- the whole
sizes_again : (es : List Entry) → entry_absolutes (entry_absolutes es) ≡ entry_absolutes es
sizes_again [] = refl
sizes_again (e ∷ es) = ap₂ (λ (a : WholePolynomial) xs. (e.0, a) ∷ xs) (absolute_twice e.1) (sizes_again es)

module _ (us : List Unknown) (f L : ℕ) (W E : LinearForm) where
  pub put_in_is : put_in us f W L E ≡ over_entries (put_in_term us f W L) E.list
  unfolding put_in
  put_in_is = refl

  absolute_is : form_of (entry_absolutes W.list) ≡ absolute_form W
  absolute_is = form_of_sizes W ∙ sym (absolute_form_is W)

  pub put_in_bulk_is : (es ws : List Entry) → es ≡ E.list → ws ≡ W.list → over_entries (λ d a. put_in_term us f (form_of (entry_absolutes ws)) L d (absolute a)) es ≡ put_in_bulk us f W L E
  unfolding put_in
  put_in_bulk_is es ws e w =
      ap₂ (λ xs G. over_entries (λ d a. put_in_term us f G L d (absolute a)) xs) e (ap (λ xs. form_of (entry_absolutes xs)) w ∙ absolute_is)
      ∙ sym (over_absolutes (put_in_term us f (absolute_form W) L) E.list) ∙ ap (over_entries (put_in_term us f (absolute_form W) L)) (sym (list-absolute_form E))

  pub put_in_sum : (F : LinearForm) (es ws : List Entry) → es ≡ E.list → ws ≡ W.list → F ≡ over_entries (put_in_term us f (form_of ws) L) es → F ≡ put_in us f W L E
  put_in_sum F es ws e w is = is ∙ ap₂ (λ xs G. over_entries (put_in_term us f G L) xs) e (ap form_of w ∙ form_of_list W) ∙ sym put_in_is

  -- with absolute values
  pub bulk_sum : (F : LinearForm) (es ws : List Entry) → es ≡ entry_absolutes E.list → ws ≡ entry_absolutes W.list → F ≡ over_entries (put_in_term us f (form_of ws) L) es → F ≡ put_in_bulk us f W L E
  unfolding put_in
  bulk_sum F es ws e w is = is ∙ ap₂ (λ xs G. over_entries (put_in_term us f G L) xs) (e ∙ sym (list-absolute_form E)) (ap form_of w ∙ absolute_is)

  pub bulk_again : (es ws : List Entry) → es ≡ entry_absolutes E.list → ws ≡ entry_absolutes W.list → over_entries (λ d a. put_in_term us f (form_of (entry_absolutes ws)) L d (absolute a)) es ≡ put_in_bulk us f W L E
  unfolding put_in
  bulk_again es ws e w =
      ap₂ (λ xs G. over_entries (λ d a. put_in_term us f G L d (absolute a)) xs) e (ap (λ xs. form_of (entry_absolutes xs)) w ∙ ap form_of (sizes_again W.list) ∙ absolute_is)
      ∙ sym (over_absolutes (put_in_term us f (absolute_form W) L) (entry_absolutes E.list)) ∙ ap (over_entries (put_in_term us f (absolute_form W) L)) (sizes_again E.list ∙ sym (list-absolute_form E))

pub sizes_apart : (es : List Entry) → Every (λ (e : Entry). ¬ (e.1 ≡ 0ᴾ)) es → Every (λ (e : Entry). ¬ (e.1 ≡ 0ᴾ)) (entry_absolutes es)
sizes_apart [] h = tt
sizes_apart (e ∷ es) h = ((λ z. h.0 (none_bounded e.1 (subst (IsBound e.1) z (absolute_bound e.1)))), sizes_apart es h.1)
