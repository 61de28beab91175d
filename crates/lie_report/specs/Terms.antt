-- The terms of linear forms and of fields, as they are printed.
use Rattle.std.specs.Prelude.{ℕ, ◌+◌, ltb, List, [], ◌∷◌, ◌++◌, length, filter, map, Some}
use Rattle.std.specs.List.Sorted.{IsStrictlySortedBy}
use Rattle.std.specs.Ordering.{nat_cmp, on}
use Rattle.lie_math.specs.Counts.{Derivative}
use Rattle.lie_math.specs.LinearForm.{LinearForm}
use Rattle.lie_math.specs.LinearSystem.{Unknown}
use Rattle.lie_math.specs.Polynomial.{WholePolynomial}
use Rattle.lie_systems.specs.Triples.{Triple, triples}
use Rattle.lie_print.specs.Printing.{PrintedTerm, of_unknown, base_vector}

-- the numbers of unknowns rise
abbrev pub AreRising : List Unknown → Type 0
AreRising us = IsStrictlySortedBy (on (λ (f : Unknown). f.number) nat_cmp) us

-- the number by which an unknown is shown: those of a system are numbered anew from 1, in rising order
abbrev pub shown_number : List Unknown → ℕ → ℕ
shown_number us n = length (filter (λ f. ltb f.number n) us) + 1

abbrev pub shown_derivative : List Unknown → Derivative → Derivative
shown_derivative us d = record { unknown = shown_number us d.unknown; counts = d.counts }

abbrev pub shown_term : List Unknown → Triple → PrintedTerm
shown_term us t = (t.2, t.1, Some (of_unknown (shown_derivative us t.0)))

-- of a linear form: the derivatives in print order, and for each the terms of its coefficient
abbrev pub form_terms : List Unknown → LinearForm → List PrintedTerm
form_terms us E = map (shown_term us) (triples E)

-- of a field, from the i-th component on: its terms, each with the base vector of its component
abbrev pub field_terms : ℕ → List WholePolynomial → List PrintedTerm
field_terms i [] = []
field_terms i (P ∷ Ps) = map (λ t. (t.1, t.0, Some (base_vector i))) P.list ++ field_terms (i + 1) Ps
