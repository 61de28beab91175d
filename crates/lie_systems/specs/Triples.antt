-- The triples of a linear form: a derivative, a monomial and a number that is not 0, in the order in which they are printed.
use Rattle.std.specs.Prelude.{List, [], ◌∷◌, ◌++◌, ℤ}
use Rattle.lie_math.specs.Monomial.{Monomial}
use Rattle.lie_math.specs.Polynomial.{WholePolynomial, term}
use Rattle.lie_math.specs.Counts.{Derivative}
use Rattle.lie_math.specs.LinearForm.{LinearForm, no_form, form_term, ◌+ᶠ◌}

-- a number times a monomial times a derivative
abbrev pub Triple : Type 0
Triple = Derivative × Monomial × ℤ

-- the triples of a derivative, one for each term of its coefficient
abbrev pub triples_with : Derivative → List (Monomial × ℤ) → List Triple
triples_with d [] = []
triples_with d (e ∷ es) = (d, e.0, e.1) ∷ triples_with d es

abbrev pub triples_in : List (Derivative × WholePolynomial) → List Triple
triples_in [] = []
triples_in (e ∷ es) = triples_with e.0 e.1.list ++ triples_in es

-- the greatest derivative first, and for each its monomials in print order
abbrev pub triples : LinearForm → List Triple
triples E = triples_in E.list

-- the form of one triple, and the sum of a list of them, in any order
abbrev pub form_of_triple : Triple → LinearForm
form_of_triple t = form_term t.0 (term t.1 t.2)

abbrev pub sum_of_triples : List Triple → LinearForm
sum_of_triples [] = no_form
sum_of_triples (t ∷ ts) = form_of_triple t +ᶠ sum_of_triples ts
