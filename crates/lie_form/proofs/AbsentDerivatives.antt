-- A derivative that does not stand in a list has the coefficient 0 there.
use Rattle.std.specs.Prelude.{◌≡◌, ℕ, ◌≤◌, false, cond, List, [], ◌∷◌, ◌++◌, length, take, drop, pos}
use Rattle.std.proofs.Common.{refl, sym, ap, subst, ◌∙◌, Ordering, Less, Equal, Greater}
use Rattle.std.specs.FinMap.Entries.{by_order}
use Rattle.std.proofs.Math.Seq.{drop-append_seam}
use Rattle.std.proofs.lemmas.List.{length-take-le}
use Rattle.lie_math.specs.Canonical.{canonical-add_at}
use Rattle.lie_math.specs.Counts.{Derivative, derivative_cmp}
use Rattle.lie_math.specs.FiniteSum as finite
use Rattle.lie_math.specs.FiniteSum.{IsCanonical}
use Rattle.lie_math.specs.FiniteSumLaws.{plus_comm, plus_idl, value-of, value-plus}
use Rattle.lie_math.specs.Limits.{IsWithinLimits, absolute}
use Rattle.lie_math.specs.LinearForm.{forms, form_term}
use Rattle.lie_math.specs.Polynomial.{WholePolynomial, terms, constant, 0ᴾ, ◌+ᴾ◌}
use Rattle.lie_math.specs.PolynomialRing.{polynomial_ring}
use Rattle.lie_math.specs.SortedSum.{add_at, put_new}
use Rattle.lie_math.proofs.Ring.{plus_cancel, plus_idr}
use Rattle.lie_form.specs.DerivativeTerms.{GoesTo, GoesNoFurther, IsFirst}
use Rattle.lie_jet.proofs.Absolutes.{within_absolute}
use Rattle.lie_form.proofs.DerivativeLists.{put_form, value_at_cut}
use Rattle.lie_jet.proofs.PolynomialBounds.{absolute_none}
use Rattle.lie_form.proofs.FormSteps.{at_term}

before_first : (d : Derivative) (a : WholePolynomial) (es : List (Derivative × WholePolynomial)) → GoesNoFurther d es → ¬ (IsFirst d es) → add_at derivative_cmp forms.values d a es ≡ put_new derivative_cmp forms.values d a es
before_first d a [] h n = refl
before_first d a (e ∷ fs) h n = go (derivative_cmp d e.0) refl
  where
    go : (o : Ordering) → derivative_cmp d e.0 ≡ o → add_at derivative_cmp forms.values d a (e ∷ fs) ≡ put_new derivative_cmp forms.values d a (e ∷ fs)
    go Less q = ap (λ o. by_order o (put_new derivative_cmp forms.values d a (e ∷ fs)) (put_new derivative_cmp forms.values d (forms.values.adder.plus a e.1) fs) (e ∷ add_at derivative_cmp forms.values d a fs)) q
    go Equal q = absurd (n q)
    go Greater q = absurd (h q)

some_one : finite.is_none terms (constant (pos 1)) ≡ false
unfolding finite.term finite.of
some_one = refl

-- where a derivative would be put before the others from a place on, the list has no coefficient for it
pub no_coefficient : (d : Derivative) (es : List (Derivative × WholePolynomial)) (i : ℕ) → IsCanonical forms es → i ≤ length es → ((a : WholePolynomial) → GoesTo d a es i) → GoesNoFurther d (drop i es) → ¬ (IsFirst d (drop i es)) → finite.value forms (finite.of forms es) d ≡ 0ᴾ
no_coefficient d es i canonical inside to stop apart = plus_cancel polynomial_ring (finite.value forms (finite.of forms es) d) 0ᴾ one (plus_comm terms one (finite.value forms (finite.of forms es) d) ∙ sym sum ∙ found ∙ sym (plus_idr polynomial_ring one))
  where
    one : WholePolynomial
    one = constant (pos 1)

    new : List (Derivative × WholePolynomial)
    new = add_at derivative_cmp forms.values d one es

    put : new ≡ take i es ++ (d, one) ∷ drop i es
    put = to one ∙ ap (λ l. take i es ++ l) (before_first d one (drop i es) stop apart ∙ ap (λ b. cond b (drop i es) ((d, one) ∷ drop i es)) some_one)

    behind : drop i (take i es ++ (d, one) ∷ drop i es) ≡ (d, one) ∷ drop i es
    behind = subst (λ n. drop n (take i es ++ (d, one) ∷ drop i es) ≡ (d, one) ∷ drop i es) (length-take-le i es inside) (drop-append_seam (take i es) ((d, one) ∷ drop i es))

    found : finite.value forms (finite.of forms new) d ≡ one
    found = value-of forms new d ∙ value_at_cut new (drop i es) i (d, one) (canonical-add_at derivative_cmp forms.values forms.total forms.same d one es canonical) (ap (drop i) put ∙ behind)

    sum : finite.value forms (finite.of forms new) d ≡ finite.value forms (finite.of forms es) d +ᴾ one
    sum =
        ap (λ E. finite.value forms E d) (put_form d one es new canonical refl).1 ∙ value-plus forms (finite.of forms es) (form_term d one) d
        ∙ ap (λ a. finite.value forms (finite.of forms es) d +ᴾ a) (at_term d one)

-- a polynomial within the limits is so beside a coefficient that is 0
pub within_beside_none : (a p : WholePolynomial) → a ≡ 0ᴾ → IsWithinLimits p → IsWithinLimits (absolute a +ᴾ absolute p)
within_beside_none a p e w = subst IsWithinLimits (sym (ap (λ b. absolute b +ᴾ absolute p) e ∙ ap (λ b. b +ᴾ absolute p) absolute_none ∙ plus_idl terms (absolute p))) (within_absolute p w)
