-- The form with the absolute values of its numbers, as a sum of triples and by its coefficients.
use Rattle.std.specs.Prelude.{◌≡◌, List, [], ◌∷◌, ◌++◌, ℤ, pos, unsigned_abs}
use Rattle.std.proofs.Common.{refl, sym, ap, ap₂, ◌∙◌}
use Rattle.std.proofs.lemmas.List.{map-append}
use Rattle.lie_math.specs.Counts.{Derivative}
use Rattle.lie_math.specs.FiniteSumLaws.{list-of}
use Rattle.lie_math.specs.Limits.{absolute, absolutes}
use Rattle.lie_math.specs.LinearForm.{LinearForm, each_coefficient}
use Rattle.lie_math.specs.Monomial.{Monomial}
use Rattle.lie_math.specs.Polynomial.{WholePolynomial, terms}
use Rattle.lie_math.proofs.Limits.{canonical_absolutes}
use Rattle.lie_systems.specs.Bulk.{absolute_triples}
use Rattle.lie_systems.specs.Triples.{Triple, triples_in, triples_with, sum_of_triples}
use Rattle.lie_systems.proofs.Triples.{sum_of_triples-triples}
use Rattle.lie_geometry.proofs.AbsoluteForms.{entry_absolutes, list_absolutes}
use Rattle.lie_steps.specs.Bulks.{absolute_form}

with_absolutes : (d : Derivative) (es : List (Monomial × ℤ)) → absolute_triples (triples_with d es) ≡ triples_with d (absolutes es)
with_absolutes d [] = refl
with_absolutes d (e ∷ es) = ap (λ ts. (d, e.0, pos (unsigned_abs e.1)) ∷ ts) (with_absolutes d es)

list_absolute : (p : WholePolynomial) → (absolute p).list ≡ absolutes p.list
unfolding absolute
list_absolute p = list-of terms (absolutes p.list) (canonical_absolutes p.list p.canonical)

triples_of_sizes : (es : List (Derivative × WholePolynomial)) → absolute_triples (triples_in es) ≡ triples_in (entry_absolutes es)
triples_of_sizes [] = refl
triples_of_sizes (e ∷ es) =
    map-append (λ (t : Triple). (t.0, t.1, pos (unsigned_abs t.2))) (triples_with e.0 e.1.list) (triples_in es)
    ∙ ap₂ ◌++◌ (with_absolutes e.0 e.1.list ∙ ap (triples_with e.0) (sym (list_absolute e.1))) (triples_of_sizes es)

pub absolute_form_is : (E : LinearForm) → absolute_form E ≡ each_coefficient absolute E
absolute_form_is E =
    ap sum_of_triples (triples_of_sizes E.list ∙ ap triples_in (sym (list_absolutes E)))
    ∙ sum_of_triples-triples (each_coefficient absolute E)

pub list-absolute_form : (E : LinearForm) → (absolute_form E).list ≡ entry_absolutes E.list
list-absolute_form E = ap (λ (G : LinearForm). G.list) (absolute_form_is E) ∙ list_absolutes E
