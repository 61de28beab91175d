-- Lists that grow element by element, as loops make them.
use Rattle.std.specs.Prelude.{ℤ, ◌≡◌, ◌∷◌, ◌++◌, [], List, map, None}
use Rattle.std.proofs.Common.{refl, sym, ap, ap₂, ◌∙◌}
use Rattle.std.proofs.lemmas.List.{map-append}
use Rattle.lie_math.specs.Monomial.{Monomial}
use Rattle.lie_ring.specs.Entries.{entries}
use Rattle.lie_print.specs.declared.printed_term.Term.{Term}
use Rattle.lie_print.specs.Printing.{PrintedTerm}
use Rattle.lie_print.specs.PrintedTerms.{printed}

pub entries-push : (es : List (Monomial × ℤ)) (m : Monomial) (z : ℤ) → entries (λ z. z) (es ++ (m, z) ∷ []) ≡ entries (λ z. z) es ++ (m, z) ∷ []
entries-push [] m z = refl
entries-push (e ∷ es) m z = ap (λ l. (e.0, e.1) ∷ l) (entries-push es m z)

pub terms-push : {B : Type 0} (g : B → PrintedTerm) (old new : List Term) (t : Term) (ys : List B) (y : B) → printed t ≡ g y → new ≡ old ++ t ∷ [] → map printed old ≡ map g ys → map printed new ≡ map g (ys ++ y ∷ [])
terms-push g old new t ys y is pushed so_far =
    ap (map printed) pushed ∙ map-append printed old (t ∷ []) ∙ ap₂ (λ (l : List PrintedTerm) (s : PrintedTerm). l ++ s ∷ []) so_far is ∙ sym (map-append g ys (y ∷ []))

abbrev plain : Monomial × ℤ → PrintedTerm
plain t = (t.1, t.0, None)

pub polynomial_terms-push : (old new : List Term) (t : Term) (es : List (Monomial × ℤ)) (m : Monomial) (z : ℤ) → printed t ≡ (z, m, None) → new ≡ old ++ t ∷ []
    → map printed old ≡ map (λ t. (t.1, t.0, None)) (entries (λ z. z) es) → map printed new ≡ map (λ t. (t.1, t.0, None)) (entries (λ z. z) (es ++ (m, z) ∷ []))
polynomial_terms-push old new t es m z is pushed so_far = terms-push plain old new t (entries (λ z. z) es) (m, z) is pushed so_far ∙ sym (ap (map plain) (entries-push es m z))
