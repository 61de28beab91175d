use Rattle.std.proofs.Common.{◌≡◌, sym, ap, subst, ◌∙◌}
use Rattle.std.specs.Prelude.{IfOk, ◌*ℤ◌, pos}
use Rattle.lie_math.specs.FiniteSum as finite
use Rattle.lie_math.specs.LinearForm.{LinearForm, forms}
use Rattle.lie_math.specs.Polynomial.{WholePolynomial, term}
use Rattle.lie_systems.specs.Normalised.{common_monomial, content, derivative_alone, first_sign}
use Rattle.lie_jet.specs.Derivatives.{derivative_of}
use Rattle.lie_jet.specs.declared.derivative.Der.{Der}
use Rattle.lie_lin.specs.Forms.{coefficients_of, triples_of}
use Rattle.lie_lin.proofs.DividedForms.{primitive_of_one, primitive_of_none, same_triples, numbers_divided, monomials_divided, number_apart, are_coefficients, primitive_is}
use Rattle.lie_lin.proofs.normalised.primitive.Goals as goal

pub returns-then-terms-eq1 : goal.returns-then-terms-eq1
returns-then-terms-eq1 c =
    subst (λ (P : LinearForm). IfOk c.derivative_alone.result (λ (made : LinearForm). made ≡ P))
    (ap (λ (e : Der × WholePolynomial). derivative_alone (derivative_of e.0)) (sym c.index-terms-0.is) ∙ primitive_of_one c.args.eq.now c.terms-terms.result.now c.index-terms-0.result c.terms-terms.ensures.list c.if-terms-eq1.true c.index-terms-0.is) c.derivative_alone.ensures

pub returns-then-terms-eq0 : goal.returns-then-terms-eq0
returns-then-terms-eq0 c =
    primitive_of_none c.args.eq.now c.terms-terms.result.now c.of_terms.result c.terms-terms.ensures.list c.if-terms-eq0.true (c.of_terms.ensures ∙ ap (λ es. finite.of forms (coefficients_of es)) c.new.ensures.items)

pub divided_coefficients-requires-clause-apart : goal.divided_coefficients-requires-clause-apart
divided_coefficients-requires-clause-apart c =
    number_apart c.args.eq.now c.terms-terms.result.now c.terms-terms.ensures.list (triples_of c.in_ok-list.list.items) c.in_ok-list.ensures c.if-terms-eq1.false c.if-terms-eq0.false c.signed_content-number.result
    (c.signed_content-number.ensures ∙ ap (λ l. first_sign (triples_of l) *ℤ pos (content (triples_of l))) c.as_slice.ensures.value)

pub divided_coefficients-requires-clause-numbers : goal.divided_coefficients-requires-clause-numbers
divided_coefficients-requires-clause-numbers c =
    numbers_divided (triples_of c.in_ok-list.list.items) _ c.signed_content-number.result
    (c.signed_content-number.ensures ∙ ap (λ l. first_sign (triples_of l) *ℤ pos (content (triples_of l))) c.as_slice.ensures.value)
    (same_triples c.args.eq.now c.terms-terms.result.now c.terms-terms.ensures.list (triples_of c.in_ok-list.list.items) c.in_ok-list.ensures)

pub divided_coefficients-requires-clause-monomials : goal.divided_coefficients-requires-clause-monomials
divided_coefficients-requires-clause-monomials c =
    monomials_divided (triples_of c.in_ok-list.list.items) _ c.in_ok-mono.mono
    (c.in_ok-mono.ensures ∙ ap (λ l. common_monomial (triples_of l)) c.as_slice-2.ensures.value)
    (same_triples c.args.eq.now c.terms-terms.result.now c.terms-terms.ensures.list (triples_of c.in_ok-list.list.items) c.in_ok-list.ensures)

pub of_terms-requires-2 : goal.of_terms-requires-2
of_terms-requires-2 c = are_coefficients (term c.in_ok-mono.mono c.signed_content-number.result) c.in_ok-out.out.items c.args.eq.now (c.in_ok-out.ensures ∙ c.terms-terms.ensures.list)

pub returns : goal.returns
returns c =
    primitive_is c.args.eq.now c.terms-terms.result.now c.terms-terms.ensures.list (triples_of c.in_ok-list.list.items) c.in_ok-list.ensures c.if-terms-eq1.false c.if-terms-eq0.false
    c.in_ok-mono.mono c.signed_content-number.result c.in_ok-out.out.items c.of_terms-2.result
    (c.in_ok-mono.ensures ∙ ap (λ l. common_monomial (triples_of l)) c.as_slice-2.ensures.value)
    (c.signed_content-number.ensures ∙ ap (λ l. first_sign (triples_of l) *ℤ pos (content (triples_of l))) c.as_slice.ensures.value)
    c.of_terms-2.ensures c.in_ok-out.ensures
