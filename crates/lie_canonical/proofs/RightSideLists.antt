-- The list of terms of a lead minus a polynomial.
use Rattle.std.specs.Prelude.{ℕ, zero, suc, ◌≡◌, ◌<◌, List, [], ◌∷◌, ◌++◌, length, map, get_or, ℤ, pos, negsuc, ◌+ℤ◌, ◌*ℤ◌, neg_ℤ, Some, Ok, Err, IfOk, refl}
use Rattle.std.specs.declared.result.Result.{Result}
use Rattle.std.specs.Global.{Vec}
use Rattle.std.specs.List.{AllByRecursion as Every}
use Rattle.std.proofs.Common.{sym, ap, ap₂, subst, ◌∙◌, arith}
use Rattle.lie_math.specs.FiniteSum as finite
use Rattle.lie_math.specs.FiniteSumLaws.{plus_idl, of_list, list-of}
use Rattle.lie_math.specs.SortedSum.{normal, add_at}
use Rattle.lie_math.specs.Integer.{coefficients, neg-*ℤ, *ℤ-idl}
use Rattle.lie_math.specs.Limits.{FitsNumber}
use Rattle.lie_math.specs.Monomial.{Monomial, monomial_cmp, powers, unit}
use Rattle.lie_math.specs.Polynomial.{WholePolynomial, terms, term, constant, coefficient, negᴾ, ◌+ᴾ◌, ◌*ᴾ◌}
use Rattle.lie_math.proofs.FiniteSum.{entries_of}
use Rattle.lie_math.proofs.TermWise.{times_list, polynomial_of-times, canonical_times}
use Rattle.lie_geometry.specs.Coordinates.{Space}
use Rattle.lie_print.specs.declared.printed_term.Term.{Term}
use Rattle.lie_print.specs.PrintedTerms.{printed, polynomial_terms}
use Rattle.lie_canonical.specs.RightSides.{negated, plain_terms, turned_terms, Leaves, IsPrintable}
use Rattle.lie_system.specs.Equations.{equation_read}
use Rattle.lie_system.specs.declared.equation.Equation.{Equation}

pub times_negated : (es : List (Monomial × ℤ)) → times_list unit (negsuc 0) es ≡ negated es
times_negated [] = refl
times_negated (e ∷ es) = ap₂ (λ (t : Monomial × ℤ) (l : List (Monomial × ℤ)). t ∷ l) (λ i. (plus_idl powers e.0 i, minus e.1 i)) (times_negated es)
  where
    minus : (a : ℤ) → negsuc 0 *ℤ a ≡ neg_ℤ a
    minus a = neg-*ℤ (pos 1) a ∙ ap neg_ℤ (*ℤ-idl a)

-- the terms of -p
pub list-neg : (p : WholePolynomial) → (negᴾ p).list ≡ negated p.list
list-neg p =
    ap (λ (q : WholePolynomial). q.list) (ap (λ r. constant (negsuc 0) *ᴾ r) (sym (of_list terms p)) ∙ sym (polynomial_of-times unit (negsuc 0) p.list))
    ∙ list-of terms (times_list unit (negsuc 0) p.list) (canonical_times unit (negsuc 0) p.list (λ e. cc) p.canonical) ∙ times_negated p.list

normal_same : (p : WholePolynomial) → normal monomial_cmp coefficients p.list ≡ p.list
unfolding finite.of
normal_same p = ap (λ (q : WholePolynomial). q.list) (of_list terms p)

pub list-term : (m : Monomial) → (term m (pos 1)).list ≡ (m, pos 1) ∷ []
unfolding finite.term
list-term m = list-of terms ((m, pos 1) ∷ []) tt

-- the terms of the lead minus p
pub list-right : (lead : Monomial) (p : WholePolynomial) → (term lead (pos 1) +ᴾ negᴾ p).list ≡ turned_terms (Some lead) p.list
unfolding finite.plus finite.of
list-right lead p =
    ap (λ l. normal monomial_cmp coefficients (l ++ (negᴾ p).list)) (list-term lead) ∙ ap (add_at monomial_cmp coefficients lead (pos 1)) (normal_same (negᴾ p) ∙ list-neg p)

pub leaves : (lead : Monomial) (p : WholePolynomial) → FitsNumber (pos 1 +ℤ neg_ℤ (coefficient p lead)) → Every (Leaves lead) p.list
leaves lead p fits = entries_of terms p (Leaves lead) (λ e is apart same. subst FitsNumber (ap (λ z. pos 1 +ℤ neg_ℤ z) (ap (coefficient p) (sym same) ∙ is)) fits)

pub printable_at : (S : Space) (es : List Equation) (i : ℕ) (e : Equation) → i < length es → e ≡ get_or es i e → Every (IsPrintable S) (map (equation_read S) es) → IsPrintable S (equation_read S e)
printable_at S [] i e lt is h = absurd (omega arith)
printable_at S (x ∷ es) zero e lt is h = subst (λ y. IsPrintable S (equation_read S y)) (sym is) h.0
printable_at S (x ∷ es) (suc i) e lt is h = printable_at S es i e (omega arith) is h.1

pub right_terms : {E : Type 0} (lead : Monomial) (p : WholePolynomial) (l : List (Monomial × ℤ)) (r : Result (Vec Term) E) → l ≡ p.list
    → IfOk r (λ ts. map printed ts.items ≡ plain_terms (turned_terms (Some lead) l)) → IfOk r (λ ts. map printed ts.items ≡ polynomial_terms (term lead (pos 1) +ᴾ negᴾ p))
right_terms lead p l (Ok ts) is h = h ∙ ap plain_terms (ap (turned_terms (Some lead)) is ∙ sym (list-right lead p))
right_terms lead p l (Err e) is h = tt
