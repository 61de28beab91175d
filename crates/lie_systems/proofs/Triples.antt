-- A form is the sum of its triples, and a form times a term has the triples times that term.
use Rattle.std.specs.Prelude.{◌≡◌, not, T, List, [], ◌∷◌, ◌++◌, map, ℤ, pos, ◌*ℤ◌}
use Rattle.std.proofs.Common.{refl, sym, ap, ap₂, subst, ◌∙◌, is_lt}
use Rattle.std.proofs.lemmas.List.{map-append}
use Rattle.lie_math.specs.SortedSum.{sum_of_entries, below_all}
use Rattle.lie_math.specs.Canonical.{both, first, second, Additive}
use Rattle.lie_math.specs.FiniteSum as finite
use Rattle.lie_math.specs.FiniteSumLaws as finite_laws
use Rattle.lie_math.specs.FiniteSumLaws.{sum-none, sum-plus, sum-term, sum_of_terms, term_additive, plus_idl, plus_assoc, of_list, list-of}
use Rattle.lie_math.specs.Monomial.{Monomial, ◌·◌}
use Rattle.lie_math.specs.Polynomial.{WholePolynomial, terms, term, polynomials, polynomial_of, 0ᴾ, ◌*ᴾ◌}
use Rattle.lie_math.specs.PolynomialRing.{*ᴾ-dist, polynomial_of-none, polynomial_ring, term_times_term}
use Rattle.lie_math.specs.Counts.{Derivative, derivative_cmp}
use Rattle.lie_math.specs.LinearForm.{forms, LinearForm, no_form, ◌+ᶠ◌, form_term, times_form}
use Rattle.lie_math.proofs.Limits.{term_is, by_test, term_apart}
use Rattle.lie_math.specs.FiniteSum.{IsCanonical}
use Rattle.lie_math.proofs.CanonicalLists.{canonical_value, canonical_below, canonical_tail, canonical_cons, of-cons}
use Rattle.lie_math.proofs.Ring.{times_nil}
use Rattle.lie_math.proofs.TermWise.{times_list, polynomial_of-times, canonical_times}
use Rattle.lie_math.proofs.ZeroDivisors.{no_zero_divisors}
use Rattle.lie_systems.specs.Triples.{Triple, triples, triples_in, triples_with, form_of_triple, sum_of_triples}

-- ---- a form is the sum of its triples
pub sum_of_triples-append : (ts us : List Triple) → sum_of_triples (ts ++ us) ≡ sum_of_triples ts +ᶠ sum_of_triples us
sum_of_triples-append [] us = sym (plus_idl forms (sum_of_triples us))
sum_of_triples-append (t ∷ ts) us = ap (λ E. form_of_triple t +ᶠ E) (sum_of_triples-append ts us) ∙ sym (plus_assoc forms (form_of_triple t) (sum_of_triples ts) (sum_of_triples us))

sum_with : (d : Derivative) (es : List (Monomial × ℤ)) → sum_of_triples (triples_with d es) ≡ form_term d (polynomial_of es)
sum_with d [] = sym (ap (form_term d) polynomial_of-none ∙ (term_additive forms).on_nil d)
sum_with d (e ∷ es) =
    ap₂ ◌+ᶠ◌ (ap (form_term d) (term_is e.0 e.1)) (sum_with d es)
    ∙ sym ((term_additive forms).on_plus d (polynomial_of (e ∷ [])) (polynomial_of es)) ∙ ap (form_term d) (sym (of-cons terms e es))

sum_in : (es : List (Derivative × WholePolynomial)) → sum_of_triples (triples_in es) ≡ sum_of_entries (finite_laws.adder forms) form_term es
sum_in [] = refl
sum_in (e ∷ es) =
    sum_of_triples-append (triples_with e.0 e.1.list) (triples_in es)
    ∙ ap₂ ◌+ᶠ◌ (sum_with e.0 e.1.list ∙ ap (form_term e.0) (of_list terms e.1)) (sum_in es)

pub sum_of_triples-triples : (E : LinearForm) → sum_of_triples (triples E) ≡ E
sum_of_triples-triples E = sum_in E.list ∙ sum_of_terms forms E

pub triples_tell : (E G : LinearForm) → triples E ≡ triples G → E ≡ G
triples_tell E G e = sym (sum_of_triples-triples E) ∙ ap sum_of_triples e ∙ sum_of_triples-triples G

-- ---- a form times a polynomial
module _ (p : WholePolynomial) where
  times_additive : Additive polynomials (finite_laws.adder forms) (λ (d : Derivative) a. form_term d (p *ᴾ a))
  times_additive = record {
    on_nil = λ d. ap (form_term d) (times_nil polynomial_ring p) ∙ (term_additive forms).on_nil d;
    on_plus = λ d a b. ap (form_term d) (*ᴾ-dist p a b) ∙ (term_additive forms).on_plus d (p *ᴾ a) (p *ᴾ b);
  }

  pub times_form-none : times_form p no_form ≡ no_form
  times_form-none = sum-none forms (finite_laws.adder forms) _ times_additive

  pub times_form-plus : (E G : LinearForm) → times_form p (E +ᶠ G) ≡ times_form p E +ᶠ times_form p G
  times_form-plus E G = sum-plus forms (finite_laws.adder forms) _ times_additive E G

  pub times_form-term : (d : Derivative) (a : WholePolynomial) → times_form p (form_term d a) ≡ form_term d (p *ᴾ a)
  times_form-term d a = sum-term forms (finite_laws.adder forms) _ times_additive d a

  -- each coefficient is multiplied
  abbrev pub each_times : List (Derivative × WholePolynomial) → List (Derivative × WholePolynomial)
  each_times [] = []
  each_times (e ∷ es) = (e.0, p *ᴾ e.1) ∷ each_times es

  form_of_each : (es : List (Derivative × WholePolynomial)) → sum_of_entries (finite_laws.adder forms) (λ d a. form_term d (p *ᴾ a)) es ≡ finite.of forms (each_times es)
  unfolding finite.none finite.term
  form_of_each [] = refl
  form_of_each (e ∷ es) = ap (λ E. form_term e.0 (p *ᴾ e.1) +ᶠ E) (form_of_each es) ∙ sym (of-cons forms (e.0, p *ᴾ e.1) (each_times es))

  module _ (n : ¬ (p ≡ 0ᴾ)) where
    some : (a : WholePolynomial) → T (not (finite.is_none terms a)) → T (not (finite.is_none terms (p *ᴾ a)))
    unfolding finite.none finite.of
    some a h = by_test (finite.is_none terms (p *ᴾ a)) (λ e. subst (λ x. T (not (finite.is_none terms x))) (no_zero_divisors p a n (finite_laws.none_of_is terms (p *ᴾ a) e)) h)

    below_each : (d : Derivative) (es : List (Derivative × WholePolynomial)) → T (below_all derivative_cmp forms.values d es) → T (below_all derivative_cmp forms.values d (each_times es))
    below_each d [] h = tt
    below_each d (e ∷ es) h = both _ (below_all derivative_cmp forms.values d (each_times es)) (first _ (below_all derivative_cmp forms.values d es) h) (below_each d es (second (is_lt (derivative_cmp d e.0)) _ h))

    canonical_each : (es : List (Derivative × WholePolynomial)) → IsCanonical forms es → IsCanonical forms (each_times es)
    canonical_each [] h = tt
    canonical_each (e ∷ es) h =
        canonical_cons forms (e.0, p *ᴾ e.1) (each_times es) (some e.1 (canonical_value forms e es h)) (below_each e.0 es (canonical_below forms e es h)) (canonical_each es (canonical_tail forms e es h))

    pub list-times_form : (E : LinearForm) → (times_form p E).list ≡ each_times E.list
    list-times_form E = ap (λ (G : LinearForm). G.list) (form_of_each E.list) ∙ list-of forms (each_times E.list) (canonical_each E.list E.canonical)

-- ---- a form times a term
-- a term times a triple
abbrev pub times_triple : Monomial → ℤ → Triple → Triple
times_triple m a t = (t.0, m · t.1, a *ℤ t.2)

module _ (m : Monomial) (a : ℤ) where
  triples_with-times : (d : Derivative) (es : List (Monomial × ℤ)) → triples_with d (times_list m a es) ≡ map (times_triple m a) (triples_with d es)
  triples_with-times d [] = refl
  triples_with-times d (e ∷ es) = ap (λ ts. times_triple m a (d, e.0, e.1) ∷ ts) (triples_with-times d es)

  -- the sum of triples times a term
  pub times_form-sum : (ts : List Triple) → times_form (term m a) (sum_of_triples ts) ≡ sum_of_triples (map (times_triple m a) ts)
  times_form-sum [] = times_form-none (term m a)
  times_form-sum (t ∷ ts) =
      times_form-plus (term m a) (form_of_triple t) (sum_of_triples ts)
      ∙ ap₂ ◌+ᶠ◌ (times_form-term (term m a) t.0 (term t.1 t.2) ∙ ap (form_term t.0) (term_times_term m t.1 a t.2)) (times_form-sum ts)

  module _ (n : ¬ (a ≡ pos 0)) where
    list-term_times : (p : WholePolynomial) → (term m a *ᴾ p).list ≡ times_list m a p.list
    list-term_times p =
        ap (λ (q : WholePolynomial). q.list) (ap (λ q. term m a *ᴾ q) (sym (of_list terms p)) ∙ sym (polynomial_of-times m a p.list))
        ∙ list-of terms (times_list m a p.list) (canonical_times m a p.list n p.canonical)

    triples_in-times : (es : List (Derivative × WholePolynomial)) → triples_in (each_times (term m a) es) ≡ map (times_triple m a) (triples_in es)
    triples_in-times [] = refl
    triples_in-times (e ∷ es) =
        ap₂ ◌++◌ (ap (triples_with e.0) (list-term_times e.1) ∙ triples_with-times e.0 e.1.list) (triples_in-times es)
        ∙ sym (map-append (times_triple m a) (triples_with e.0 e.1.list) (triples_in es))

    pub triples-times : (E : LinearForm) → triples (times_form (term m a) E) ≡ map (times_triple m a) (triples E)
    triples-times E = ap triples_in (list-times_form (term m a) (term_apart m a n) E) ∙ triples_in-times E.list
