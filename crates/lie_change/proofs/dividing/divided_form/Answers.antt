use Rattle.std.proofs.Common.{◌≡◌, sym, subst, ◌∙◌}
use Rattle.lie_math.specs.Monomial.{Monomial}
use Rattle.lie_math.specs.Polynomial.{term}
use Rattle.lie_systems.specs.Laws.{DividesMonomials}
use Rattle.lie_systems.specs.Triples.{triples_in}
use Rattle.lie_systems.proofs.Triples.{each_times}
use Rattle.lie_lin.specs.Forms.{coefficients_of}
use Rattle.lie_lin.proofs.DividedForms.{are_coefficients}
use Rattle.lie_change.proofs.CommonNumbers.{unit_divides, divided_is}
use Rattle.lie_change.proofs.dividing.divided_form.Goals as goal

pub divided_coefficients-requires-clause-monomials : goal.divided_coefficients-requires-clause-monomials
divided_coefficients-requires-clause-monomials c = subst (λ (m : Monomial). DividesMonomials m
    (triples_in (coefficients_of c.terms.result.now))) (sym c.one-unit.ensures)
    (unit_divides (triples_in (coefficients_of c.terms.result.now)))

pub of_terms-requires : goal.of_terms-requires
of_terms-requires c = are_coefficients (term c.one-unit.result c.args.divisor) c.in_ok-terms.terms.items c.args.form.now
    (c.in_ok-terms.ensures ∙ c.terms.ensures.list)

pub returns : goal.returns
returns c =
    divided_is c.args.divisor c.args.form.now c.of_terms.result c.in_ok-terms.terms.items c.requires.apart c.requires.positive
    c.requires.divides c.of_terms.ensures
    (subst (λ (m : Monomial). each_times (term m c.args.divisor)
    (coefficients_of c.in_ok-terms.terms.items) ≡ c.args.form.now.list) c.one-unit.ensures
    (c.in_ok-terms.ensures ∙ c.terms.ensures.list))
