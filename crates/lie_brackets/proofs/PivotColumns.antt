-- The pivot of a generator is the first column where its field is not 0, and no other column is a pivot.
use Rattle.std.specs.Prelude.{◌≡◌, ℕ, zero, suc, ◌<◌, ◌≤◌, ◌⊎◌, List, [], ◌∷◌, length, get_or, ℤ, pos, Bool, true, false}
use Rattle.std.proofs.Common.{Ordering, Less, Equal, Greater, refl, sym, ap, subst, ◌∙◌, arith, inl, inr, true≢false}
use Rattle.std.proofs.lemmas.List.Elements.{recursion_from_All}
use Rattle.std.specs.Cmp.{tied_itself, ranks}
use Rattle.std.specs.FinMap.{nat_cmp-IsAntisymmetric}
use Rattle.std.specs.List.{AllByRecursion as Every}
use Rattle.std.specs.Ordering.{nat_cmp, ordering_then, MatchOrdering}
use Rattle.lie_math.specs.FiniteSum.{IsCanonical}
use Rattle.lie_math.specs.Integer.{is_zero_int, int_nil}
use Rattle.lie_math.specs.Monomial.{Monomial, degree, unit, monomial_cmp}
use Rattle.lie_math.specs.MonomialOrder.{monomial_cmp_total, monomial_cmp-IsAntisymmetric}
use Rattle.lie_math.specs.Polynomial.{terms, coefficient}
use Rattle.lie_math.specs.PolynomialRing.{polynomial_of-none}
use Rattle.lie_math.specs.VectorField.{component}
use Rattle.lie_math.proofs.CanonicalLists.{value_has}
use Rattle.lie_math.proofs.Decisions.{at_most_or_greater}
use Rattle.lie_math.proofs.SortedLists.{less_equal, less_greater, not_both_less}
use Rattle.lie_geometry.specs.Coordinates.{Space}
use Rattle.lie_jet.specs.Listed.{sum_listed}
use Rattle.lie_poly.proofs.TimesSteps.{entry_not_zero}
use Rattle.lie_spans.specs.Fields.{Column, column_before, field_entry}
use Rattle.lie_spans.specs.Reduced.{IsPivot}
use Rattle.lie_spans.proofs.FieldBasis.{neither_before}
use Rattle.lie_spans.proofs.Reduced.{positive_not_zero}
use Rattle.lie_brackets.specs.FieldTerms.{Part, field_of_terms, AreInOrder}
use Rattle.lie_brackets.specs.Generators.{terms_at, term_at, IsFirstLowest, field_of_generator, pivot_column, IsGenerator}
use Rattle.lie_brackets.specs.declared.generators.Generator.{Generator}
use Rattle.lie_brackets.proofs.FieldParts.{listed_list}
use Rattle.lie_brackets.proofs.PivotPlaces.{empty_sum, terms_of_part}
use Rattle.lie_brackets.proofs.TermSearches.{later_terms, coefficient_of_term}

-- ---- orders by two comparisons
first_or_second : (a b : Ordering) → ordering_then a b ≡ Less → (a ≡ Less) ⊎ ((a ≡ Equal) × (b ≡ Less))
first_or_second Less b e = inl refl
first_or_second Equal b e = inr (refl, e)
first_or_second Greater b e = absurd (less_greater e refl)

below_of_cmp : (x y : ℕ) → nat_cmp x y ≡ Less → x < y
below_of_cmp x y e = go (nat_cmp x y) (ranks x y) e
  where
    go : (r : Ordering) → MatchOrdering r (x < y) (x ≡ y) (y < x) → r ≡ Less → x < y
    go Less k e = k
    go Equal k e = absurd (less_equal e refl)
    go Greater k e = absurd (less_greater e refl)

-- ---- parts
-- an element at a place, whatever stands past the end
pub same_element : {X : Type 0} (xs : List X) (i : ℕ) (x y : X) → i < length xs → get_or xs i x ≡ get_or xs i y
same_element [] i x y l = absurd (omega arith)
same_element (z ∷ xs) zero x y l = refl
same_element (z ∷ xs) (suc i) x y l = same_element xs i x y (omega arith)

pub component_listed : (xs : List Part) (t : ℕ) → component (field_of_terms xs) t ≡ sum_listed (terms_at xs t)
component_listed [] t = sym polynomial_of-none
component_listed (x ∷ xs) zero = refl
component_listed (x ∷ xs) (suc t) = component_listed xs t

pub terms_in_order : (xs : List Part) (t : ℕ) → t < length xs → AreInOrder xs → IsCanonical terms (terms_at xs t)
terms_in_order [] t l h = absurd (omega arith)
terms_in_order (x ∷ xs) zero l h = h.0
terms_in_order (x ∷ xs) (suc t) l h = terms_in_order xs t (omega arith) h.1

-- ---- the first of the lowest terms
-- the lower degree first, then as printed
abbrev IsBefore : Monomial → Monomial → Type 0
IsBefore m n = ordering_then (nat_cmp (degree m) (degree n)) (monomial_cmp m n) ≡ Less

module _ (ts : List (Monomial × ℤ)) (i : ℕ) (h : IsCanonical terms ts) (f : IsFirstLowest ts i) where
  abbrev lowest : Monomial
  lowest = (term_at ts i).0

  no_term_before : (j : ℕ) → j < length ts → ¬ (IsBefore (term_at ts j).0 lowest)
  no_term_before j l e = go (first_or_second (nat_cmp (degree (term_at ts j).0) (degree lowest)) (monomial_cmp (term_at ts j).0 lowest) e)
    where
      by_place : degree (term_at ts j).0 ≡ degree lowest → monomial_cmp (term_at ts j).0 lowest ≡ Less → (j ≤ i) ⊎ (i < j) → ⊥
      by_place d r (inr later) = not_both_less monomial_cmp monomial_cmp_total monomial_cmp-IsAntisymmetric (term_at ts j).0 lowest r (later_terms ts i j (unit, pos 0) h later l)
      by_place d r (inl c) = up_to (at_most_or_greater i j)
        where
          up_to : (i ≤ j) ⊎ (j < i) → ⊥
          up_to (inr before) =
              let n : degree lowest < degree (term_at ts j).0 = f.first j before in omega (arith, d)
          up_to (inl same) =
              less_equal r (ap (λ k. monomial_cmp (term_at ts k).0 lowest) (let e : j ≡ i = omega arith in e) ∙ tied_itself monomial_cmp_total lowest)

      go : (nat_cmp (degree (term_at ts j).0) (degree lowest) ≡ Less)
          ⊎ ((nat_cmp (degree (term_at ts j).0) (degree lowest) ≡ Equal) × (monomial_cmp (term_at ts j).0 lowest ≡ Less)) → ⊥
      go (inl d) = absurd (omega (arith, below_of_cmp (degree (term_at ts j).0) (degree lowest) d, f.lowest j l))
      go (inr (d, r)) = by_place (nat_cmp-IsAntisymmetric _ _ d) r (at_most_or_greater j i)

  zero_before : (m : Monomial) → IsBefore m lowest → coefficient (sum_listed ts) m ≡ pos 0
  zero_before m b = go (is_zero_int (coefficient (sum_listed ts) m)) refl
    where
      none : Every (λ (t : Monomial × ℤ). ¬ (IsBefore t.0 lowest)) ts
      none = recursion_from_All _ ts (λ j d l. subst (λ (t : Monomial × ℤ). ¬ (IsBefore t.0 lowest)) (same_element ts j (unit, pos 0) d l) (no_term_before j l))

      go : (z : Bool) → is_zero_int (coefficient (sum_listed ts) m) ≡ z → coefficient (sum_listed ts) m ≡ pos 0
      go true e = int_nil _ e
      go false e = absurd (value_has terms (λ (t : Monomial × ℤ). ¬ (IsBefore t.0 lowest)) m (sum_listed ts).list (sum_listed ts).canonical
          (subst (Every (λ (t : Monomial × ℤ). ¬ (IsBefore t.0 lowest))) (listed_list ts h) none)
          (λ z. true≢false (ap is_zero_int (sym z) ∙ e)) b)

-- ---- the pivot of a generator
module _ (S : Space) (g : Generator) (h : IsGenerator S g) where
  abbrev pivot_terms : List (Monomial × ℤ)
  pivot_terms = terms_at g.parts.items g.part

  pub pivot_terms_in_order : IsCanonical terms pivot_terms
  pivot_terms_in_order = terms_in_order g.parts.items g.part h.pivot.inside h.parts.ordered

  zero_before_pivot : (j : Column) → column_before j (pivot_column g) → field_entry (field_of_generator g) j ≡ pos 0
  zero_before_pivot j b = ap (λ p. coefficient p j.1) (component_listed g.parts.items j.0) ∙ go (first_or_second (nat_cmp j.0 g.part) _ b)
    where
      go : (nat_cmp j.0 g.part ≡ Less) ⊎ ((nat_cmp j.0 g.part ≡ Equal) × IsBefore j.1 (pivot_column g).1)
          → coefficient (sum_listed (terms_at g.parts.items j.0)) j.1 ≡ pos 0
      go (inl l) = empty_sum (terms_at g.parts.items j.0) j.1 (h.pivot.before j.0 (below_of_cmp _ _ l))
      go (inr (e, r)) =
          ap (λ s. coefficient (sum_listed (terms_at g.parts.items s)) j.1) (nat_cmp-IsAntisymmetric j.0 g.part e)
          ∙ zero_before pivot_terms g.place pivot_terms_in_order h.pivot.here j.1 r

  -- the term at the pivot
  pub pivot_term : (x : Monomial × ℤ) → x ≡ get_or pivot_terms g.place x
      → (x.0 ≡ (pivot_column g).1) × (field_entry (field_of_generator g) (pivot_column g) ≡ x.1) × (¬ (x.1 ≡ pos 0))
  pivot_term x is = (
    ap (λ (t : Monomial × ℤ). t.0) at_place,
    ap (λ m. coefficient (component (field_of_generator g) g.part) m) (sym (ap (λ (t : Monomial × ℤ). t.0) at_place))
        ∙ ap (λ p. coefficient p x.0) (component_listed g.parts.items g.part)
        ∙ coefficient_of_term pivot_terms g.place x pivot_terms_in_order h.pivot.here.inside is,
    entry_not_zero pivot_terms g.place x pivot_terms_in_order h.pivot.here.inside is,
  )
    where
      at_place : x ≡ term_at pivot_terms g.place
      at_place = is ∙ same_element pivot_terms g.place x (unit, pos 0) h.pivot.here.inside

  pub read_pivot : (part : Part) → part ≡ get_or g.parts.items g.part part → (x : Monomial × ℤ) → x ≡ get_or part.items g.place x
      → (x.0 ≡ (pivot_column g).1) × (field_entry (field_of_generator g) (pivot_column g) ≡ x.1) × (¬ (x.1 ≡ pos 0))
  read_pivot part here x is =
      pivot_term x (is ∙ sym (ap (λ ts. get_or ts g.place x) (terms_of_part g.parts.items g.part part h.pivot.inside here)))

  not_zero_at_pivot : ¬ (field_entry (field_of_generator g) (pivot_column g) ≡ pos 0)
  not_zero_at_pivot z =
      let x = term_at pivot_terms g.place in
      let t = pivot_term x (same_element pivot_terms g.place (unit, pos 0) x h.pivot.here.inside) in
      t.2 (sym t.1 ∙ z)

  pub one_pivot : (k : Column) → IsPivot field_entry column_before (field_of_generator g) k → k ≡ pivot_column g
  one_pivot k p =
      neither_before k (pivot_column g)
      (λ b. positive_not_zero (field_entry (field_of_generator g) k) p.positive (zero_before_pivot k b))
      (λ b. not_zero_at_pivot (p.first (pivot_column g) b))
