-- The component of a bracket is what two derivations put into a list, and its bulk covers what each of them makes.
use Rattle.std.specs.Prelude.{◌≡◌, ℕ, ◌+◌, ◌<◌, ◌≤◌, ◌⊎◌, List, [], ◌∷◌, ◌++◌, length, map, take, ℤ, pos, negsuc}
use Rattle.std.proofs.Common.{sym, ap, ap₂, subst, ◌∙◌, arith, get_or, inl, inr}
use Rattle.std.proofs.lemmas.List.{map-append}
use Rattle.std.proofs.lemmas.List.FromFn.{map-range_with_len_more}
use Rattle.std.specs.List.{range_with_len}
use Rattle.lie_math.specs.Derivation.{derivation}
use Rattle.lie_math.specs.FiniteSum.{IsCanonical}
use Rattle.lie_math.specs.FiniteSumLaws.{of_list, plus_idl}
use Rattle.lie_math.specs.Limits.{absolute}
use Rattle.lie_math.specs.Monomial.{Monomial}
use Rattle.lie_math.specs.Polynomial.{WholePolynomial, terms, polynomial_of, constant, ◌+ᴾ◌, ◌*ᴾ◌}
use Rattle.lie_math.specs.PolynomialRing.{polynomial_of-none, one-*ᴾ}
use Rattle.lie_math.specs.VectorField.{component}
use Rattle.lie_math.proofs.Decisions.{at_most_or_greater}
use Rattle.lie_math.proofs.EveryElement.{every-append}
use Rattle.lie_math.proofs.Limits.{IsCovered, covered_first, covered_second}
use Rattle.lie_geometry.specs.Commutator.{commutator_component}
use Rattle.lie_geometry.specs.Coordinates.{Space}
use Rattle.lie_systems.specs.Works.{Made, APolynomial}
use Rattle.lie_ring.specs.Causes.{IsCause}
use Rattle.lie_ring.specs.Entries.{entries}
use Rattle.lie_ring.specs.declared.failures.PastKind.TheVariants.{Coefficient, Exponent, Terms, Order, Unknowns, Width}
use Rattle.lie_ring.specs.declared.failures.PolyFail.{PolyFail}
use Rattle.lie_ring.specs.declared.failures.PolyFail.TheVariants.{Past, NoMemory}
use Rattle.lie_jet.specs.Listed.{sum_listed, bulk_listed}
use Rattle.lie_jet.proofs.TotalParts.{entries_same}
use Rattle.lie_ring.proofs.Fronts.{take_more}
use Rattle.lie_brackets.specs.Bulks.{bracket_bulk}
use Rattle.lie_brackets.specs.Causes.{IsWorkCause}
use Rattle.lie_brackets.specs.FieldTerms.{Part, field_of_terms, AreInOrder, AreTermsOn}
use Rattle.lie_brackets.proofs.FieldParts.{part_sum, part_ordered, part_count, sizes, derivation_of_sizes_plain}

-- ---- one component
module _ (S : Space) (v w : List Part) (hv : AreTermsOn S v) (hw : AreTermsOn S w) (s : ℕ) (inside : s < S.p + S.q) (x y : Part) (is_x : x ≡ get_or w s x) (is_y : y ≡ get_or v s y) (xs ys : List (Monomial × ℤ)) (read_x : xs ≡ x.items) (read_y : ys ≡ y.items) where
  sum_x : sum_listed xs ≡ component (field_of_terms w) s
  sum_x = ap sum_listed read_x ∙ part_sum w s x (let n = part_count S w hw in omega arith) is_x

  sum_y : sum_listed ys ≡ component (field_of_terms v) s
  sum_y = ap sum_listed read_y ∙ part_sum v s y (let n = part_count S v hv in omega arith) is_y

  ordered_x : IsCanonical terms xs
  ordered_x = subst (IsCanonical terms) (sym read_x) (part_ordered w s x (let n = part_count S w hw in omega arith) is_x hw.ordered)

  ordered_y : IsCanonical terms ys
  ordered_y = subst (IsCanonical terms) (sym read_y) (part_ordered v s y (let n = part_count S v hv in omega arith) is_y hv.ordered)

  -- the two halves of the bulk
  bulk_is : derivation (sizes v) (absolute (sum_listed xs)) +ᴾ derivation (sizes w) (absolute (sum_listed ys)) ≡ bracket_bulk (field_of_terms v) (field_of_terms w) s
  bulk_is = ap₂ (λ p q. derivation (sizes v) (absolute p) +ᴾ derivation (sizes w) (absolute q)) sum_x sum_y

  pub first_half_covered : IsCovered (derivation (sizes v) (absolute (sum_listed xs))) (bracket_bulk (field_of_terms v) (field_of_terms w) s)
  first_half_covered = subst (IsCovered (derivation (sizes v) (absolute (sum_listed xs)))) bulk_is
      (covered_first _ _ (derivation_of_sizes_plain v xs ordered_x) (derivation_of_sizes_plain w ys ordered_y))

  pub second_half_covered : IsCovered (derivation (sizes w) (absolute (sum_listed ys))) (bracket_bulk (field_of_terms v) (field_of_terms w) s)
  second_half_covered = subst (IsCovered (derivation (sizes w) (absolute (sum_listed ys)))) bulk_is
      (covered_second _ _ (derivation_of_sizes_plain v xs ordered_x) (derivation_of_sizes_plain w ys ordered_y))

  module _ (empty first both : List (Monomial × ℤ)) (none : empty ≡ []) where
    pub component_sum : (a b : ℤ) → a ≡ pos 1 → b ≡ negsuc 0
        → sum_listed first ≡ sum_listed empty +ᴾ constant a *ᴾ derivation (component (field_of_terms v)) (sum_listed xs)
        → sum_listed both ≡ sum_listed first +ᴾ constant b *ᴾ derivation (component (field_of_terms w)) (sum_listed ys)
        → sum_listed both ≡ commutator_component (component (field_of_terms v)) (component (field_of_terms w)) s
    component_sum a b one minus e f =
        f ∙ ap₂ (λ p q. p +ᴾ q)
        (e ∙ ap₂ (λ p q. p +ᴾ q) (ap sum_listed none ∙ polynomial_of-none) (ap (λ z. constant z *ᴾ derivation (component (field_of_terms v)) (sum_listed xs)) one ∙ one-*ᴾ _) ∙ plus_idl terms _ ∙ ap (derivation (component (field_of_terms v))) sum_x)
        (ap₂ (λ z q. constant z *ᴾ derivation (component (field_of_terms w)) q) minus sum_y)

    pub component_bulk :
        bulk_listed first ≡ bulk_listed empty +ᴾ derivation (sizes v) (absolute (sum_listed xs))
        → bulk_listed both ≡ bulk_listed first +ᴾ derivation (sizes w) (absolute (sum_listed ys))
        → bulk_listed both ≡ bracket_bulk (field_of_terms v) (field_of_terms w) s
    component_bulk e f =
        f ∙ ap (λ p. p +ᴾ derivation (sizes w) (absolute (sum_listed ys)))
        (e ∙ ap (λ p. p +ᴾ derivation (sizes v) (absolute (sum_listed xs))) (ap bulk_listed none ∙ polynomial_of-none) ∙ plus_idl terms _)
        ∙ bulk_is

-- ---- all components
-- what a polynomial of the work is past, the work is past
pub work_cause : (fail : PolyFail) (p : WholePolynomial) (makes : Made → Type 0) → makes (APolynomial p) → IsCause fail p → IsWorkCause fail makes
work_cause (Past Coefficient) p makes m h = (APolynomial p, m, h)
work_cause (Past Exponent) p makes m h = (APolynomial p, m, h)
work_cause (Past Terms) p makes m h = (APolynomial p, m, h)
work_cause (Past Order) p makes m h = absurd h
work_cause (Past Unknowns) p makes m h = absurd h
work_cause (Past Width) p makes m h = absurd h
work_cause NoMemory p makes m h = tt

pub components_more : (f : ℕ → WholePolynomial) (n : ℕ) (new old : List WholePolynomial) (p : WholePolynomial) → new ≡ old ++ p ∷ [] → p ≡ f n
    → old ≡ map f (range_with_len 0 n) → new ≡ map f (range_with_len 0 (n + 1))
components_more f n new old p put is before =
    put ∙ ap₂ (λ xs y. xs ++ y ∷ []) before is ∙ sym (map-range_with_len_more f 0 n n (plain n))
  where
    plain : (n : ℕ) → 0 + n ≡ n
    plain n = omega arith

pub below_more : (P : ℕ → Type 0) (n : ℕ) → ((t : ℕ) → t < n → P t) → P n → (t : ℕ) → t < n + 1 → P t
below_more P n h here t l = go (at_most_or_greater n t)
  where
    go : (n ≤ t) ⊎ (t < n) → P t
    go (inl c) = subst P (let e : n ≡ t = omega arith in e) here
    go (inr c) = h t c

-- ---- the terms of the parts of a field
module _ (xs new : List Part) (t : Part) (P : WholePolynomial) (put : new ≡ xs ++ t ∷ []) (read : entries (λ z. z) t.items ≡ P.list) where
  pub parts_more : (ps : List WholePolynomial) (k : ℕ) → k < length ps → P ≡ get_or ps k P
      → map (λ (x : Part). sum_listed x.items) xs ≡ take k ps → map (λ (x : Part). sum_listed x.items) new ≡ take (k + 1) ps
  parts_more ps k l is before =
      ap (map (λ (x : Part). sum_listed x.items)) put ∙ map-append (λ (x : Part). sum_listed x.items) xs (t ∷ [])
      ∙ ap₂ (λ ys p. ys ++ p ∷ []) before (ap polynomial_of read ∙ of_list terms P) ∙ take_more ps k P l is

  pub order_more : AreInOrder xs → AreInOrder new
  order_more h =
      subst AreInOrder (sym put)
      (every-append (λ (x : Part). IsCanonical terms x.items) xs (t ∷ []) h (subst (IsCanonical terms) (sym (sym (entries_same t.items) ∙ read)) P.canonical, tt))
