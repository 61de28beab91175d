-- Forms divided by a term that divides them: multiplied by it they are back, so they are the normalised equation.
use Rattle.std.specs.Prelude.{◌≡◌, ℕ, zero, suc, ◌+◌, ◌<◌, not, T, List, [], ◌∷◌, ◌++◌, length, take, get_or, ℤ, pos, ◌*ℤ◌, unsigned_abs}
use Rattle.std.specs.Int.{◌∣◌}
use Rattle.std.specs.List.{AllByRecursion as Every}
use Rattle.std.proofs.Common.{refl, sym, ap, ap₂, subst, ◌∙◌, arith, is_lt}
use Rattle.std.proofs.lemmas.Nat.Gcd.{dvd_refl}
use Rattle.lie_math.proofs.EveryElement.{every-front, every-back}
use Rattle.lie_math.specs.SortedSum.{below_all}
use Rattle.lie_math.specs.Canonical.{both, first, second}
use Rattle.lie_math.specs.FiniteSum as finite
use Rattle.lie_math.specs.FiniteSumLaws as finite_laws
use Rattle.lie_math.specs.Monomial.{Monomial, ◌·◌}
use Rattle.lie_math.specs.Polynomial.{WholePolynomial, terms, term, polynomial_of, 0ᴾ, ◌*ᴾ◌, constant}
use Rattle.lie_math.specs.PolynomialRing.{polynomial_ring}
use Rattle.lie_math.specs.Counts.{Derivative, derivative_cmp}
use Rattle.lie_math.specs.LinearForm.{LinearForm, forms, times_form}
use Rattle.lie_math.proofs.Limits.{by_test, term_apart, one_apart}
use Rattle.lie_math.specs.FiniteSum.{IsCanonical}
use Rattle.lie_math.proofs.CanonicalLists.{canonical_value, canonical_below, canonical_tail, canonical_cons}
use Rattle.lie_math.proofs.Ring.{times_nil}
use Rattle.lie_math.proofs.TermWise.{times_list, polynomial_of-times}
use Rattle.lie_jet.specs.declared.derivative.Der.{Der}
use Rattle.lie_jet.specs.Derivatives.{derivative_of}
use Rattle.lie_systems.specs.Triples.{Triple, triples, triples_in, triples_with}
use Rattle.lie_systems.specs.Laws.{DividesMonomial, DividesMonomials, DividesNumbers}
use Rattle.lie_systems.specs.Normalised.{content, common_monomial, without_factor, primitive, primitive_of, derivative_alone}
use Rattle.lie_systems.proofs.Divisibility.{all_divided, all_common}
use Rattle.lie_systems.proofs.Exponents.{factor_back}
use Rattle.lie_systems.proofs.Normalised.{first_of, signed_content, signed_content_apart, primitive_part, times-primitive_part, size-signed_content}
use Rattle.lie_systems.proofs.Triples.{each_times, list-times_form, sum_of_triples-triples}
use Rattle.lie_systems.proofs.Unique.{times_form-cancel}
use Rattle.lie_lin.specs.Forms.{coefficients_of, AreCoefficients}
use Rattle.lie_ring.specs.Entries.{entries}
use Rattle.lie_lin.specs.Powers.{IsDividedTerm}
use Rattle.lie_lin.proofs.Forms.{coefficients_of-append}
use Rattle.lie_poly.proofs.TimesSteps.{times-append}
use Rattle.lie_jet.proofs.TotalParts.{entries_same}
use Rattle.lie_ring.proofs.Fronts.{take_more}

-- ---- lists
pub term_back : (m : Monomial) (a : ℤ) (old new : List (Monomial × ℤ)) (t : Monomial × ℤ) (rest : Monomial) (q : ℤ) → new ≡ old ++ (rest, q) ∷ [] → rest ≡ without_factor m t.0 → a *ℤ q ≡ t.1 → DividesMonomial m t.0 → times_list m a new ≡ times_list m a old ++ t ∷ []
term_back m a old new t rest q e r n d =
    ap (times_list m a) e ∙ times-append m a old ((rest, q) ∷ [])
    ∙ ap₂ (λ x y. times_list m a old ++ (x, y) ∷ []) (ap (λ x. m · x) r ∙ factor_back m t.0 d) n

coefficient_back : (m : Monomial) (a : ℤ) (out : List (Monomial × ℤ)) (p q : WholePolynomial) → times_list m a out ≡ p.list → q ≡ polynomial_of out → term m a *ᴾ q ≡ p
coefficient_back m a out p q e h = ap (λ x. term m a *ᴾ x) h ∙ sym (polynomial_of-times m a out) ∙ ap polynomial_of e ∙ finite_laws.of_list terms p

-- ---- the coefficients of a form
with_divided : (m : Monomial) (a : ℤ) (d : Derivative) (ts : List (Monomial × ℤ)) → DividesNumbers (unsigned_abs a) (triples_with d ts) → DividesMonomials m (triples_with d ts) → Every (IsDividedTerm m a) ts
with_divided m a d [] h k = tt
with_divided m a d (t ∷ ts) h k = ((h.0, k.0), with_divided m a d ts h.1 k.1)

pub divided_at : (m : Monomial) (a : ℤ) (es : List (Der × WholePolynomial)) (i : ℕ) (e : Der × WholePolynomial) → i < length es → e ≡ get_or es i e → DividesNumbers (unsigned_abs a) (triples_in (coefficients_of es)) → DividesMonomials m (triples_in (coefficients_of es)) → Every (IsDividedTerm m a) (e.1).list
divided_at m a [] i e lt is h k = absurd (omega arith)
divided_at m a (x ∷ es) zero e lt is h k =
    subst (λ (y : Der × WholePolynomial). Every (IsDividedTerm m a) (y.1).list) (sym is)
    (with_divided m a (derivative_of x.0) (x.1).list
    (every-front (λ (t : Triple). unsigned_abs a ∣ unsigned_abs t.2) (triples_with (derivative_of x.0) (x.1).list) (triples_in (coefficients_of es)) h)
    (every-front (λ (t : Triple). DividesMonomial m t.1) (triples_with (derivative_of x.0) (x.1).list) (triples_in (coefficients_of es)) k))
divided_at m a (x ∷ es) (suc i) e lt is h k =
    divided_at m a es i e (omega arith) is
    (every-back (λ (t : Triple). unsigned_abs a ∣ unsigned_abs t.2) (triples_with (derivative_of x.0) (x.1).list) (triples_in (coefficients_of es)) h)
    (every-back (λ (t : Triple). DividesMonomial m t.1) (triples_with (derivative_of x.0) (x.1).list) (triples_in (coefficients_of es)) k)

each_times-append : (p : WholePolynomial) (es fs : List (Derivative × WholePolynomial)) → each_times p (es ++ fs) ≡ each_times p es ++ each_times p fs
each_times-append p [] fs = refl
each_times-append p (e ∷ es) fs = ap (λ xs. (e.0, p *ᴾ e.1) ∷ xs) (each_times-append p es fs)

pub form_step : (p q : WholePolynomial) (old new es : List (Der × WholePolynomial)) (i : ℕ) (e : Der × WholePolynomial) → i < length es → e ≡ get_or es i e → new ≡ old ++ (e.0, q) ∷ [] → p *ᴾ q ≡ e.1 → each_times p (coefficients_of old) ≡ coefficients_of (take i es) → each_times p (coefficients_of new) ≡ coefficients_of (take (i + 1) es)
form_step p q old new es i e lt is n h k =
    ap (λ xs. each_times p (coefficients_of xs)) n ∙ ap (each_times p) (coefficients_of-append old ((e.0, q) ∷ [])) ∙ each_times-append p (coefficients_of old) ((derivative_of e.0, q) ∷ [])
    ∙ ap₂ (λ xs x. xs ++ (derivative_of e.0, x) ∷ []) k h ∙ sym (coefficients_of-append (take i es) (e ∷ [])) ∙ ap coefficients_of (take_more es i e lt is)

-- ---- what is multiplied to coefficients of a form is coefficients of one
below_same : (p : WholePolynomial) (d : Derivative) (es : List (Derivative × WholePolynomial)) → T (below_all derivative_cmp forms.values d (each_times p es)) → T (below_all derivative_cmp forms.values d es)
below_same p d [] h = tt
below_same p d (e ∷ es) h =
    both (is_lt (derivative_cmp d e.0)) (below_all derivative_cmp forms.values d es) (first (is_lt (derivative_cmp d e.0)) (below_all derivative_cmp forms.values d (each_times p es)) h)
    (below_same p d es (second (is_lt (derivative_cmp d e.0)) (below_all derivative_cmp forms.values d (each_times p es)) h))

some_factor : (p a : WholePolynomial) → T (not (finite.is_none terms (p *ᴾ a))) → T (not (finite.is_none terms a))
some_factor p a h = by_test (finite.is_none terms a) (λ e. nothing (subst (λ x. T (not (finite.is_none terms x))) (ap (λ x. p *ᴾ x) (finite_laws.none_of_is terms a e) ∙ times_nil polynomial_ring p) h))
  where
    nothing : T (not (finite.is_none terms 0ᴾ)) → ⊥
    nothing k = subst (λ b. T (not b)) (finite_laws.is_none_none terms) k

canonical_factor : (p : WholePolynomial) (es : List (Derivative × WholePolynomial)) → IsCanonical forms (each_times p es) → IsCanonical forms es
canonical_factor p [] h = tt
canonical_factor p (e ∷ es) h =
    canonical_cons forms e es (some_factor p e.1 (canonical_value forms (e.0, p *ᴾ e.1) (each_times p es) h)) (below_same p e.0 es (canonical_below forms (e.0, p *ᴾ e.1) (each_times p es) h))
    (canonical_factor p es (canonical_tail forms (e.0, p *ᴾ e.1) (each_times p es) h))

pub are_coefficients : (p : WholePolynomial) (new : List (Der × WholePolynomial)) (E : LinearForm) → each_times p (coefficients_of new) ≡ E.list → AreCoefficients new
are_coefficients p new E e = canonical_factor p (coefficients_of new) (subst (IsCanonical forms) (sym e) E.canonical)

pub numbers_divided : (ts us : List Triple) (a : ℤ) → a ≡ signed_content ts → us ≡ ts → DividesNumbers (unsigned_abs a) us
numbers_divided ts us a e s = subst (DividesNumbers (unsigned_abs a)) (sym s) (subst (λ g. DividesNumbers g ts) (sym (ap unsigned_abs e ∙ size-signed_content ts)) (all_divided (content ts) ts (dvd_refl (content ts))))

pub monomials_divided : (ts us : List Triple) (m : Monomial) → m ≡ common_monomial ts → us ≡ ts → DividesMonomials m us
monomials_divided ts us m e s = subst (DividesMonomials m) (sym s) (subst (λ n. DividesMonomials n ts) (sym e) (all_common (common_monomial ts) ts (λ v. omega arith)))

length-coefficients : (es : List (Der × WholePolynomial)) → length (coefficients_of es) ≡ length es
length-coefficients [] = refl
length-coefficients (e ∷ es) = ap suc (length-coefficients es)

-- the list of a form with two derivatives or more
abbrev IsMany : LinearForm → Type 0
IsMany E = (e : Derivative × WholePolynomial) × (f : Derivative × WholePolynomial) × (es : List (Derivative × WholePolynomial)) × (E.list ≡ e ∷ f ∷ es)

many_of : (E : LinearForm) (n : ℕ) → n ≡ length E.list → ¬ (n ≡ 1) → ¬ (n ≡ 0) → IsMany E
many_of E n e one none = go E.list refl
  where
    go : (es : List (Derivative × WholePolynomial)) → E.list ≡ es → IsMany E
    go [] is = absurd (none (e ∙ ap length is))
    go (x ∷ []) is = absurd (one (e ∙ ap length is))
    go (x ∷ y ∷ es) is = (x, y, es, is)

module _ (E : LinearForm) (terms : List (Der × WholePolynomial)) (are : coefficients_of terms ≡ E.list) (ts : List Triple) (all : ts ≡ triples E) where
  pub same_triples : triples_in (coefficients_of terms) ≡ ts
  same_triples = ap triples_in are ∙ sym all

  module _ (one : ¬ (length terms ≡ 1)) (none : ¬ (length terms ≡ 0)) where
    many : IsMany E
    many = many_of E (length terms) (sym (length-coefficients terms) ∙ ap length are) one none

    content_apart : ¬ (signed_content (triples E) ≡ pos 0)
    content_apart = signed_content_apart (triples E) (first_of E many.0 (many.1 ∷ many.2) many.3)

    pub number_apart : (a : ℤ) → a ≡ signed_content ts → ¬ (a ≡ pos 0)
    number_apart a e z = content_apart (ap signed_content (sym all) ∙ sym e ∙ z)

    -- what is back when it is multiplied is the normalised equation
    pub primitive_is : (m : Monomial) (a : ℤ) (new : List (Der × WholePolynomial)) (N : LinearForm) → m ≡ common_monomial ts → a ≡ signed_content ts → N ≡ finite.of forms (coefficients_of new) → each_times (term m a) (coefficients_of new) ≡ coefficients_of terms → N ≡ primitive E
    unfolding primitive
    primitive_is m a new N em ea en back =
        times_form-cancel (common_monomial (triples E)) (signed_content (triples E)) content_apart N (primitive_part (triples E)) (multiplied ∙ sym (sum_of_triples-triples E) ∙ sym (times-primitive_part (triples E)))
        ∙ sym (ap (λ es. primitive_of es (triples E)) many.3)
      where
        factor : term m a ≡ term (common_monomial (triples E)) (signed_content (triples E))
        factor = ap₂ term (em ∙ ap common_monomial all) (ea ∙ ap signed_content all)

        listed : N.list ≡ coefficients_of new
        listed = ap (λ (G : LinearForm). G.list) en ∙ finite_laws.list-of forms (coefficients_of new) (are_coefficients (term m a) new E (back ∙ are))

        multiplied : times_form (term (common_monomial (triples E)) (signed_content (triples E))) N ≡ E
        multiplied =
            ap (λ p. times_form p N) (sym factor)
            ∙ finite_laws.same_list forms (times_form (term m a) N) E (list-times_form (term m a) (term_apart m a (number_apart a ea)) N ∙ ap (each_times (term m a)) listed ∙ back ∙ are)

-- ---- a derivative alone, and nothing
pub alone_are : (d : Der) (p : WholePolynomial) (new : List (Der × WholePolynomial)) → new ≡ (d, p) ∷ [] → p ≡ constant (pos 1) → AreCoefficients new
alone_are d p new e h = subst AreCoefficients (sym e) (canonical_cons forms (derivative_of d, p) [] (by_test (finite.is_none terms p) (λ n. one_apart (sym h ∙ finite_laws.none_of_is terms p n))) tt tt)

pub alone_is : (d : Der) (p : WholePolynomial) (new : List (Der × WholePolynomial)) (N : LinearForm) → new ≡ (d, p) ∷ [] → p ≡ constant (pos 1) → N ≡ finite.of forms (coefficients_of new) → N ≡ derivative_alone (derivative_of d)
unfolding finite.term
alone_is d p new N e h n = n ∙ ap (λ es. finite.of forms (coefficients_of es)) e ∙ ap (λ q. finite.of forms ((derivative_of d, q) ∷ [])) h

pub primitive_of_one : (E : LinearForm) (terms : List (Der × WholePolynomial)) (e : Der × WholePolynomial) → coefficients_of terms ≡ E.list → length terms ≡ 1 → e ≡ get_or terms 0 e → derivative_alone (derivative_of e.0) ≡ primitive E
unfolding primitive
primitive_of_one E [] e are n is = absurd (omega arith)
primitive_of_one E (x ∷ []) e are n is = ap (λ (y : Der × WholePolynomial). derivative_alone (derivative_of y.0)) is ∙ ap (λ es. primitive_of es (triples E)) are
primitive_of_one E (x ∷ y ∷ terms) e are n is = absurd (omega arith)

pub primitive_of_none : (E : LinearForm) (terms : List (Der × WholePolynomial)) (N : LinearForm) → coefficients_of terms ≡ E.list → length terms ≡ 0 → N ≡ finite.of forms [] → N ≡ primitive E
unfolding primitive finite.none
primitive_of_none E [] N are n e = e ∙ ap (λ es. primitive_of es (triples E)) are
primitive_of_none E (x ∷ terms) N are n e = absurd (omega arith)

pub coefficient_made : (m : Monomial) (a : ℤ) (out slice : List (Monomial × ℤ)) (p : WholePolynomial) → times_list m a out ≡ p.list → slice ≡ out → (q : WholePolynomial) → q ≡ polynomial_of (entries (λ z. z) slice) → term m a *ᴾ q ≡ p
coefficient_made m a out slice p e s q h = coefficient_back m a out p q e (h ∙ ap polynomial_of (entries_same slice ∙ s))
