-- The parts of a field that is given by the terms of its parts.
use Rattle.std.specs.Prelude.{◌≡◌, ℕ, zero, suc, ◌+◌, ◌<◌, List, [], ◌∷◌, length, ℤ, pos}
use Rattle.std.proofs.Common.{sym, ap, subst, ◌∙◌, arith, get_or}
use Rattle.std.proofs.lemmas.List.{length-map}
use Rattle.lie_math.specs.Derivation.{is_below, derivation}
use Rattle.lie_math.specs.FiniteSum.{IsCanonical}
use Rattle.lie_math.specs.FiniteSumLaws.{list-of}
use Rattle.lie_math.specs.Limits.{absolute, absolutes}
use Rattle.lie_math.specs.Monomial.{Monomial}
use Rattle.lie_math.specs.Polynomial.{WholePolynomial, terms, 0ᴾ, polynomial_of}
use Rattle.lie_math.specs.Variables.{IsIn}
use Rattle.lie_math.specs.VectorField.{component}
use Rattle.lie_math.proofs.EveryElement.{every_at}
use Rattle.lie_math.proofs.Limits.{IsNonNegative, absolute_of}
use Rattle.lie_geometry.specs.Coordinates.{Space}
use Rattle.lie_jet.specs.Listed.{sum_listed, bulk_listed, HasVariablesBelow}
use Rattle.lie_jet.proofs.PolynomialBounds.{absolute_bound}
use Rattle.lie_jet.proofs.TotalParts.{entries_same, term_fine}
use Rattle.lie_brackets.specs.FieldTerms.{Part, field_of_terms, AreInOrder, AreTermsOn}
use Rattle.lie_brackets.proofs.AdditiveMaps.{additive_plain}
use Rattle.lie_brackets.proofs.DerivedTerms.{derivation_is_additive, derivation_keeps_plain}

-- ---- a list of terms in order
pub listed_list : (xs : List (Monomial × ℤ)) → IsCanonical terms xs → xs ≡ (sum_listed xs).list
listed_list xs h = sym (ap (λ es. (polynomial_of es).list) (entries_same xs) ∙ list-of terms xs h)

pub absolute_listed : (xs : List (Monomial × ℤ)) → IsCanonical terms xs → absolute (sum_listed xs) ≡ bulk_listed xs
absolute_listed xs h =
    ap (λ es. absolute (polynomial_of es)) (entries_same xs) ∙ absolute_of xs h ∙ ap (λ es. polynomial_of (absolutes es)) (sym (entries_same xs))

pub term_of_listed : (n : ℕ) (xs : List (Monomial × ℤ)) (k : ℕ) (x : Monomial × ℤ) → IsCanonical terms xs → IsIn (is_below n) (sum_listed xs)
    → k < length xs → x ≡ get_or xs k x → HasVariablesBelow n x.0 × (¬ (x.1 ≡ pos 0))
term_of_listed n xs k x h low inside is = term_fine n (sum_listed xs) xs k x low (listed_list xs h) inside is

-- ---- parts
pub part_sum : (xs : List Part) (w : ℕ) (x : Part) → w < length xs → x ≡ get_or xs w x → sum_listed x.items ≡ component (field_of_terms xs) w
part_sum [] w x l e = absurd (omega arith)
part_sum (y ∷ xs) zero x l e = ap (λ (z : Part). sum_listed z.items) e
part_sum (y ∷ xs) (suc w) x l e = part_sum xs w x (omega arith) e

pub part_ordered : (xs : List Part) (w : ℕ) (x : Part) → w < length xs → x ≡ get_or xs w x → AreInOrder xs → IsCanonical terms x.items
part_ordered xs w x l e h = every_at (λ (z : Part). IsCanonical terms z.items) xs w x l e h

pub part_bulk : (xs : List Part) (w : ℕ) (x : Part) → w < length xs → x ≡ get_or xs w x → AreInOrder xs
    → bulk_listed x.items ≡ absolute (component (field_of_terms xs) w)
part_bulk xs w x l e h = sym (absolute_listed x.items (part_ordered xs w x l e h)) ∙ ap absolute (part_sum xs w x l e)

-- ---- absolute values
-- those of the parts
abbrev pub sizes : List Part → ℕ → WholePolynomial
sizes xs w = absolute (component (field_of_terms xs) w)

pub sizes_plain : (xs : List Part) (w : ℕ) → IsNonNegative (sizes xs w)
sizes_plain xs w = (absolute_bound (component (field_of_terms xs) w)).plain

pub derivation_of_sizes_plain : (xs : List Part) (ts : List (Monomial × ℤ)) → IsCanonical terms ts → IsNonNegative (derivation (sizes xs) (absolute (sum_listed ts)))
derivation_of_sizes_plain xs ts h =
    subst (λ p. IsNonNegative (derivation (sizes xs) p)) (sym (absolute_listed ts h))
    (additive_plain (derivation_is_additive (sizes xs)) (derivation_keeps_plain (sizes xs) (sizes_plain xs)) ts)

-- ---- fields on the space
pub part_count : (S : Space) (xs : List Part) → AreTermsOn S xs → length xs ≡ S.p + S.q
part_count S xs h = sym (length-map xs (λ (x : Part). sum_listed x.items)) ∙ h.field.size

pub part_in : (S : Space) (xs ys : List Part) (w : ℕ) (x : Part) → AreTermsOn S xs → AreTermsOn S ys → w < S.p + S.q → x ≡ get_or xs w x
    → IsIn (is_below (length ys)) (sum_listed x.items)
part_in S xs ys w x h k inside is =
    let n : length ys ≡ S.p + S.q = part_count S ys k in
    let m : length xs ≡ S.p + S.q = part_count S xs h in
    subst (λ j. IsIn (is_below j) (sum_listed x.items)) (sym n)
    (subst (IsIn (is_below (S.p + S.q))) (sym (part_sum xs w x (omega arith) is)) (h.field.in_z w 0ᴾ (omega (arith, h.field.size))))
