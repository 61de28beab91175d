-- The normalised equation: it is normalised, the form is a multiple of it, and it has the same solutions.
use Rattle.std.specs.Prelude.{◌≡◌, ℕ, suc, ◌<◌, ◌↔◌, List, [], ◌∷◌, length, pos, not, T}
use Rattle.std.proofs.Common.{refl, sym, ap, subst, ◌∙◌, arith, inl, inr}
use Rattle.lie_math.specs.FiniteSum as finite
use Rattle.lie_math.specs.FiniteSumLaws.{is_none_none, of_list, same_list}
use Rattle.lie_math.specs.Polynomial.{WholePolynomial, terms, term, 0ᴾ, constant}
use Rattle.lie_math.specs.PolynomialRing.{*ᴾ_comm, one-*ᴾ}
use Rattle.lie_math.specs.Counts.{Derivative}
use Rattle.lie_math.specs.LinearForm.{forms, LinearForm, no_form, form_term, apply, IsMultipleOf}
use Rattle.lie_math.proofs.Cancellation.{multiple_says}
use Rattle.lie_math.proofs.CanonicalLists.{canonical_value}
use Rattle.lie_math.proofs.Limits.{term_apart, one_apart}
use Rattle.lie_systems.specs.Triples.{triples}
use Rattle.lie_systems.specs.Normalised.{common_monomial, IsNormalised, primitive, primitive_of}
use Rattle.lie_systems.proofs.Normalised.{first_of, signed_content, signed_content_apart, primitive_part, times-primitive_part, primitive_part_is_primitive}
use Rattle.lie_systems.proofs.Triples.{each_times, list-times_form, times_form-none, times_form-term, sum_of_triples-triples}

pub length-each : (p : WholePolynomial) (es : List (Derivative × WholePolynomial)) → length (each_times p es) ≡ length es
length-each p [] = refl
length-each p (e ∷ es) = ap suc (length-each p es)

-- a form of no derivative, and of one
pub no_derivative : (E : LinearForm) → E.list ≡ [] → E ≡ no_form
unfolding finite.none finite.of
no_derivative E e = same_list forms E no_form e

pub one_derivative : (E : LinearForm) (e : Derivative × WholePolynomial) → E.list ≡ e ∷ [] → E ≡ form_term e.0 e.1
unfolding finite.term
one_derivative E e is = sym (of_list forms E) ∙ ap (finite.of forms) is

-- the first coefficient is not 0
coefficient_apart : (E : LinearForm) (e : Derivative × WholePolynomial) (es : List (Derivative × WholePolynomial)) → E.list ≡ e ∷ es → ¬ (e.1 ≡ 0ᴾ)
coefficient_apart E e es is z =
    subst (λ b. T (not b)) (ap (finite.is_none terms) z ∙ is_none_none terms)
    (canonical_value forms e es (subst (λ xs. T (Rattle.lie_math.specs.SortedSum.is_canonical forms.order forms.values xs)) is E.canonical))

pub multiple_of_primitive : (E : LinearForm) → IsMultipleOf E (primitive E)
unfolding primitive
multiple_of_primitive E = go E.list refl
  where
    go : (es : List (Derivative × WholePolynomial)) → E.list ≡ es → IsMultipleOf E (primitive_of es (triples E))
    go [] is = record { factor = constant (pos 1); apart = one_apart; is = no_derivative E is ∙ sym (times_form-none (constant (pos 1))) }
    go (e ∷ []) is = record {
      factor = e.1;
      apart = coefficient_apart E e [] is;
      is = one_derivative E e is ∙ ap (form_term e.0) (sym (*ᴾ_comm e.1 (constant (pos 1)) ∙ one-*ᴾ e.1)) ∙ sym (times_form-term e.1 e.0 (constant (pos 1)));
    }
    go (e ∷ f ∷ es) is = record {
      factor = term (common_monomial (triples E)) (signed_content (triples E));
      apart = term_apart (common_monomial (triples E)) (signed_content (triples E)) (signed_content_apart (triples E) (first_of E e (f ∷ es) is));
      is = sym (sum_of_triples-triples E) ∙ sym (times-primitive_part (triples E));
    }

pub primitive_normalised : (E : LinearForm) → ¬ (E ≡ no_form) → IsNormalised (primitive E)
unfolding primitive
primitive_normalised E n = go E.list refl
  where
    more : (e f : Derivative × WholePolynomial) (es : List (Derivative × WholePolynomial)) → E.list ≡ e ∷ f ∷ es → 1 < length (primitive_part (triples E)).list
    more e f es is =
        let x = first_of E e (f ∷ es) is in
        let a = term_apart (common_monomial (triples E)) (signed_content (triples E)) (signed_content_apart (triples E) x) in
        let same : length E.list ≡ length (primitive_part (triples E)).list =
        ap (λ (G : LinearForm). length G.list) (sym (sum_of_triples-triples E) ∙ sym (times-primitive_part (triples E)))
        ∙ ap length (list-times_form (term (common_monomial (triples E)) (signed_content (triples E))) a (primitive_part (triples E))) ∙ length-each _ (primitive_part (triples E)).list in
        let two : length E.list ≡ suc (suc (length es)) = ap length is in
        omega arith

    go : (es : List (Derivative × WholePolynomial)) → E.list ≡ es → IsNormalised (primitive_of es (triples E))
    go [] is = absurd (n (no_derivative E is))
    go (e ∷ []) is = inl (e.0, refl)
    go (e ∷ f ∷ es) is = inr (more e f es is, primitive_part_is_primitive E (first_of E e (f ∷ es) is))

-- an equation and its normalised equation have the same solutions
pub primitive_same_solutions : (F : ℕ → WholePolynomial) (E : LinearForm) → apply F E ≡ 0ᴾ ↔ apply F (primitive E) ≡ 0ᴾ
primitive_same_solutions F E = multiple_says F E (primitive E) (multiple_of_primitive E)
