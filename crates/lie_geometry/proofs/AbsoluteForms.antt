-- The entries of the form with the absolute values are those of the form, each with the absolute values.
use Rattle.std.specs.Prelude.{◌≡◌, not, T, List, [], ◌∷◌, map, ℤ}
use Rattle.std.proofs.Common.{refl, sym, ap, subst, ◌∙◌, is_lt}
use Rattle.lie_math.specs.Canonical.{both, first, second}
use Rattle.lie_math.specs.Counts.{Derivative, derivative_cmp}
use Rattle.lie_math.specs.FiniteSum as finite
use Rattle.lie_math.specs.FiniteSum.{list_is_empty, IsCanonical}
use Rattle.lie_math.specs.FiniteSumLaws as finite_laws
use Rattle.lie_math.specs.Limits.{absolute, absolutes}
use Rattle.lie_math.specs.LinearForm.{forms, LinearForm, ◌+ᶠ◌, form_term, each_coefficient}
use Rattle.lie_math.specs.Monomial.{Monomial}
use Rattle.lie_math.specs.Polynomial.{WholePolynomial, terms}
use Rattle.lie_math.specs.SortedSum.{below_all, sum_of_entries}
use Rattle.lie_math.proofs.CanonicalLists.{canonical_value, canonical_tail, canonical_below, canonical_cons, of-cons}
use Rattle.lie_math.proofs.Limits.{canonical_absolutes}

abbrev pub entry_absolutes : List (Derivative × WholePolynomial) → List (Derivative × WholePolynomial)
entry_absolutes es = map (λ (e : Derivative × WholePolynomial). (e.0, absolute e.1)) es

same_none : (a : WholePolynomial) → finite.is_none terms (absolute a) ≡ finite.is_none terms a
unfolding absolute
same_none a = ap list_is_empty (finite_laws.list-of terms (absolutes a.list) (canonical_absolutes a.list a.canonical)) ∙ by a.list
  where
    by : (es : List (Monomial × ℤ)) → list_is_empty (absolutes es) ≡ list_is_empty es
    by [] = refl
    by (e ∷ es) = refl

below_entries : (d : Derivative) (es : List (Derivative × WholePolynomial)) → T (below_all derivative_cmp forms.values d es) → T (below_all derivative_cmp forms.values d (entry_absolutes es))
below_entries d [] h = tt
below_entries d (e ∷ es) h = both _ (below_all derivative_cmp forms.values d (entry_absolutes es)) (first _ (below_all derivative_cmp forms.values d es) h) (below_entries d es (second (is_lt (derivative_cmp d e.0)) _ h))

canonical_entries : (es : List (Derivative × WholePolynomial)) → IsCanonical forms es → IsCanonical forms (entry_absolutes es)
canonical_entries [] h = tt
canonical_entries (e ∷ es) h =
    canonical_cons forms (e.0, absolute e.1) (entry_absolutes es) (subst (λ b. T (not b)) (sym (same_none e.1)) (canonical_value forms e es h)) (below_entries e.0 es (canonical_below forms e es h)) (canonical_entries es (canonical_tail forms e es h))

sum_of_absolutes : (es : List (Derivative × WholePolynomial)) → sum_of_entries (finite_laws.adder forms) (λ d a. form_term d (absolute a)) es ≡ finite.of forms (entry_absolutes es)
unfolding finite.none finite.term
sum_of_absolutes [] = refl
sum_of_absolutes (e ∷ es) = ap (λ E. form_term e.0 (absolute e.1) +ᶠ E) (sum_of_absolutes es) ∙ sym (of-cons forms (e.0, absolute e.1) (entry_absolutes es))

pub list_absolutes : (E : LinearForm) → (each_coefficient absolute E).list ≡ entry_absolutes E.list
list_absolutes E = ap (λ (G : LinearForm). G.list) (sum_of_absolutes E.list) ∙ finite_laws.list-of forms (entry_absolutes E.list) (canonical_entries E.list E.canonical)
