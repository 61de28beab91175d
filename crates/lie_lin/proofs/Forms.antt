-- Kept forms, and the triples of them, part by part.
use Rattle.std.specs.Prelude.{◌≡◌, ℕ, ◌+◌, ◌<◌, List, [], ◌∷◌, ◌++◌, length, get_or, take, ℤ}
use Rattle.std.proofs.Common.{refl, sym, ap, subst, ◌∙◌, arith, append_assoc, append-nil, add-one}
use Rattle.std.proofs.Math.Seq.{take-suc}
use Rattle.lie_math.specs.FiniteSum as finite
use Rattle.lie_math.specs.FiniteSumLaws.{list-of}
use Rattle.lie_math.specs.Monomial.{Monomial}
use Rattle.lie_math.specs.Polynomial.{WholePolynomial}
use Rattle.lie_math.specs.Counts.{Derivative}
use Rattle.lie_math.specs.LinearForm.{forms, LinearForm, no_form}
use Rattle.lie_systems.specs.Triples.{Triple, triples_in, triples_with}
use Rattle.lie_systems.specs.Leads.{IsLead}
use Rattle.lie_systems.proofs.Leads.{first_is_lead}
use Rattle.lie_jet.specs.declared.derivative.Der.{Der}
use Rattle.lie_lin.specs.Forms.{coefficients_of, AreCoefficients, triples_of}
use Rattle.lie_jet.specs.Derivatives.{derivative_of}
use Rattle.lie_form.proofs.FormParts.{triples_in-append}

pub triples_of-append : (xs ys : List (Der × Monomial × ℤ)) → triples_of (xs ++ ys) ≡ triples_of xs ++ triples_of ys
triples_of-append [] ys = refl
triples_of-append (x ∷ xs) ys = ap (λ ts. (derivative_of x.0, x.1, x.2) ∷ ts) (triples_of-append xs ys)

pub coefficients_of-append : (xs ys : List (Der × WholePolynomial)) → coefficients_of (xs ++ ys) ≡ coefficients_of xs ++ coefficients_of ys
coefficients_of-append [] ys = refl
coefficients_of-append (x ∷ xs) ys = ap (λ es. (derivative_of x.0, x.1) ∷ es) (coefficients_of-append xs ys)

-- ---- a kept form
pub list_of_kept : (es : List (Der × WholePolynomial)) (E : LinearForm) → AreCoefficients es → finite.of forms (coefficients_of es) ≡ E → E.list ≡ coefficients_of es
list_of_kept es E c is = ap (λ (G : LinearForm). G.list) (sym is) ∙ list-of forms (coefficients_of es) c

pub empty_is_none : (es : List (Der × WholePolynomial)) (E : LinearForm) → length es ≡ 0 → finite.of forms (coefficients_of es) ≡ E → E ≡ no_form
unfolding finite.none
empty_is_none [] E e is = sym is
empty_is_none (x ∷ es) E e is = absurd (omega arith)

pub first_is_kept_lead : (es : List (Der × WholePolynomial)) (E : LinearForm) (x : Der × WholePolynomial) → AreCoefficients es → finite.of forms (coefficients_of es) ≡ E → 0 < length es → x ≡ get_or es 0 x → IsLead (derivative_of x.0) E
first_is_kept_lead [] E x c is lt e = absurd (omega arith)
first_is_kept_lead (y ∷ es) E x c is lt e = subst (λ (z : Der × WholePolynomial). IsLead (derivative_of z.0) E) (sym e) (first_is_lead E (derivative_of y.0, y.1) (coefficients_of es) (list_of_kept (y ∷ es) E c is))

-- one more coefficient
pub triples_more : (es : List (Der × WholePolynomial)) (i : ℕ) (x : Der × WholePolynomial) → i < length es → x ≡ get_or es i x → triples_in (coefficients_of (take (i + 1) es)) ≡ triples_in (coefficients_of (take i es)) ++ triples_with (derivative_of x.0) x.1.list
triples_more es i x lt e =
    ap (λ n. triples_in (coefficients_of (take n es))) (add-one i)
    ∙ ap (λ xs. triples_in (coefficients_of xs)) (take-suc es i x lt ∙ ap (λ y. take i es ++ y ∷ []) (sym e))
    ∙ ap triples_in (coefficients_of-append (take i es) (x ∷ [])) ∙ triples_in-append (coefficients_of (take i es)) ((derivative_of x.0, x.1) ∷ [])
    ∙ ap (λ ts. triples_in (coefficients_of (take i es)) ++ ts) (append-nil (triples_with (derivative_of x.0) x.1.list))

-- ---- terms that are turned into triples one by one
pub triple_moved : (d : Der) (m : Monomial) (a : ℤ) (out new : List (Der × Monomial × ℤ)) (rest next : List (Monomial × ℤ)) (all : List Triple) → new ≡ out ++ (d, m, a) ∷ [] → rest ≡ (m, a) ∷ next
    → triples_of out ++ triples_with (derivative_of d) rest ≡ all → triples_of new ++ triples_with (derivative_of d) next ≡ all
triple_moved d m a out new rest next all put taken h =
    ap (λ xs. triples_of xs ++ triples_with (derivative_of d) next) put ∙ ap (λ ts. ts ++ triples_with (derivative_of d) next) (triples_of-append out ((d, m, a) ∷ []))
    ∙ append_assoc (triples_of out) ((derivative_of d, m, a) ∷ []) (triples_with (derivative_of d) next)
    ∙ ap (λ xs. triples_of out ++ triples_with (derivative_of d) xs) (sym taken) ∙ h

pub triples_moved : (d : Derivative) (ts all : List Triple) (rest : List (Monomial × ℤ)) → length rest ≡ 0 → ts ++ triples_with d rest ≡ all → ts ≡ all
triples_moved d ts all [] e h = sym (append-nil ts) ∙ h
triples_moved d ts all (x ∷ rest) e h = absurd (omega arith)
