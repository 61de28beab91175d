-- The field's own numbers bound the bulks of its prolonged coefficients.
use Rattle.std.specs.Prelude.{◌≡◌, ℕ, zero, suc, ◌+◌, ◌-◌, ◌*◌, ◌≤◌, ◌<◌, List, [], ◌∷◌, min, take, ◌↔◌}
use Rattle.std.proofs.Common.{refl, sym, ap, subst, subst₂, ◌∙◌, arith, get_or, length}
use Rattle.lie_math.specs.Counts.{order}
use Rattle.lie_math.specs.FiniteSum as finite
use Rattle.lie_math.specs.Limits.{IsWithinLimits, absolute, greatest_exponent, greatest_term_count}
use Rattle.lie_math.specs.Monomial.{degree}
use Rattle.lie_math.specs.Polynomial.{WholePolynomial, 0ᴾ}
use Rattle.lie_math.specs.Powers.{total_degree}
use Rattle.lie_math.specs.VectorField.{VectorField, component}
use Rattle.lie_math.proofs.Degree.{bounded}
use Rattle.lie_geometry.specs.Coordinates.{Space, Coordinate, independent, jet, IsCoordinate, order_of, number, coordinate}
use Rattle.lie_geometry.specs.FieldNorms.{IsBoundedBy, field_norm_bound}
use Rattle.lie_geometry.specs.Norms.{norm}
use Rattle.lie_geometry.specs.Prolongation.{indices}
use Rattle.lie_geometry.proofs.FieldNorms.{absolute_is_bounded, bounded_polynomial_is_within_limits, field_coefficients_are_bounded}
use Rattle.lie_geometry.proofs.Numbers.{coordinate_is, count_rises}
use Rattle.lie_geometry.proofs.NumberOrder.{order_below}
use Rattle.lie_geometry.proofs.WeightedNorms.{le_trans, le_same}
use Rattle.lie_ring.proofs.Fronts.{all_taken}
use Rattle.lie_jet.specs.JetLists.{HoldsUpTo}
use Rattle.lie_jet.specs.Jets.{coordinate_of, IsJet, IsSmall}
use Rattle.lie_jet.specs.declared.jet.Jet.{Jet}
use Rattle.lie_jet.proofs.JetLists.{at_number, low_number}
use Rattle.lie_prolong.specs.Bulks.{coefficient_bulk, bulk_at}
use Rattle.lie_prolong.specs.FieldBounds.{greatest_of, AreLowBounds, IsBoundedField}

-- ---- the bound rises with the order
pub bound_rises : (S : Space) (M D k n : ℕ) → k ≤ n → field_norm_bound S M D k ≤ field_norm_bound S M D n
bound_rises S M D k n h = subst (λ m. field_norm_bound S M D k ≤ field_norm_bound S M D m) (back k n h) (go (n - k))
  where
    back : (k n : ℕ) → k ≤ n → (n - k) + k ≡ n
    back k n h = omega arith

    next : (a b c : ℕ) → a ≤ b → a ≤ suc D * b + c
    next a b c h = omega arith

    go : (d : ℕ) → field_norm_bound S M D k ≤ field_norm_bound S M D (d + k)
    go zero = le_same _ _ (ap (field_norm_bound S M D) (let e : k ≡ 0 + k = omega arith in e))
    go (suc d) = le_trans _ _ _ (next _ (field_norm_bound S M D (d + k)) (S.p * (D * M)) (go d)) (le_same _ _ (ap (field_norm_bound S M D) (let e : suc (d + k) ≡ suc d + k = omega arith in e)))

-- ---- no part has a greater norm or degree
part_at_most : (f : WholePolynomial → ℕ) → f 0ᴾ ≡ 0 → (Ps : List WholePolynomial) (s : ℕ) → f (get_or Ps s 0ᴾ) ≤ greatest_of f Ps
part_at_most f none [] s = omega arith
part_at_most f none (P ∷ Ps) zero = omega arith
part_at_most f none (P ∷ Ps) (suc s) = let h = part_at_most f none Ps s in omega arith

norm_none : norm 0ᴾ ≡ 0
unfolding finite.none finite.of
norm_none = refl

degree_none : total_degree 0ᴾ ≡ 0
unfolding finite.none finite.of
degree_none = refl

module _ (V : VectorField) where
  abbrev M : ℕ
  M = greatest_of norm V.parts

  abbrev D : ℕ
  D = greatest_of total_degree V.parts

  component_bounded : (s : ℕ) → IsBoundedBy M D (component V s)
  component_bounded s = record {
    norm = part_at_most norm norm_none V.parts s;
    degrees = λ m apart. le_trans _ _ _ (bounded degree (component V s).list m apart) (part_at_most total_degree degree_none V.parts s);
  }

  -- ---- the bulks
  module _ (S : Space) (small : IsSmall S) (n : ℕ) (low : IsBoundedField S n V) where
    component_within : (s : ℕ) → IsWithinLimits (absolute (component V s))
    component_within s =
        bounded_polynomial_is_within_limits M D (absolute (component V s)) (le_trans _ _ _ (bound_rises S M D 0 n (omega arith)) low.norms) (less D low.degrees) (absolute_is_bounded M D (component V s) (component_bounded s))
      where
        less : (d : ℕ) → suc d ≤ greatest_exponent → d ≤ greatest_exponent
        less d h = omega arith

    bulk_within : (c : Coordinate) → IsCoordinate S c → order_of c ≤ n → IsWithinLimits (bulk_at S (component V) c)
    bulk_within (independent i) is few = component_within i
    bulk_within (jet a J) is few = by (indices J) refl
      where
        by : (W : List ℕ) → indices J ≡ W → IsWithinLimits (coefficient_bulk S (component V) a W)
        by [] e = component_within (S.p + a)
        by (k ∷ W) e =
            bounded_polynomial_is_within_limits (field_norm_bound S M D (order J)) (suc D) (coefficient_bulk S (component V) a (k ∷ W)) (le_trans _ _ _ (bound_rises S M D (order J) n few) low.norms) low.degrees
            ((field_coefficients_are_bounded S (small.some_p, small.some_q) M D (component V) component_bounded a J is.1).1 k W e)

    pub bulks_within : HoldsUpTo S n (λ c. IsWithinLimits (bulk_at S (component V) c))
    bulks_within w after inside = bulk_within (coordinate S w) (coordinate_is S small.some_p small.some_q w).0 ((order_below S small.some_p small.some_q w n).1 inside)

-- ---- what holds at all jets holds at one, and at those of a lower order
module _ (S : Space) (Good : Coordinate → Type 0) where
  jet_after : (a : ℕ) (J : List ℕ) → S.p ≤ number S (jet a J)
  unfolding number
  jet_after a J = omega arith

  pub holds_at : (n : ℕ) (j : Jet) → IsJet S 12 j → order (take S.p j.counts) ≤ n → HoldsUpTo S n Good → Good (coordinate_of S j)
  holds_at n j is low h =
      subst Good (at_number S 12 j is) (h (number S (coordinate_of S j)) (jet_after j.dep (take S.p j.counts)) (low_number S is.space n (number S (coordinate_of S j)) j (at_number S 12 j is) low))

  pub holds_below : IsSmall S → (m n : ℕ) → m ≤ n → HoldsUpTo S n Good → HoldsUpTo S m Good
  holds_below small m n low h w after inside = h w after (less _ _ _ inside (count_rises S small.some_p small.some_q m n low))
    where
      less : (w a b : ℕ) → w < a → a ≤ b → w < b
      less w a b h k = omega arith

-- ---- numbers told as far as the limits
module _ (S : Space) (n : ℕ) where
  least : (M D : ℕ) → AreLowBounds S n M D → M ≤ greatest_term_count
  least M D h = le_trans _ _ _ (bound_rises S M D 0 n (omega arith)) h.norms

  low_told : (M D m d : ℕ) → m ≡ min M (suc greatest_term_count) → d ≡ min D (suc greatest_exponent) → AreLowBounds S n m d ↔ AreLowBounds S n M D
  low_told M D m d e f = (
    λ h. subst₂ (AreLowBounds S n) (exact M m greatest_term_count e (least m d h)) (exact D d greatest_exponent f (less d h.degrees)) h,
    λ h. subst₂ (AreLowBounds S n) (sym (same M m greatest_term_count e (least M D h))) (sym (same D d greatest_exponent f (less D h.degrees))) h,
  )
    where
      less : (d : ℕ) → suc d ≤ greatest_exponent → d ≤ greatest_exponent
      less d h = omega arith

      exact : (M m c : ℕ) → m ≡ min M (suc c) → m ≤ c → m ≡ M
      exact M m c e h = omega arith

      same : (M m c : ℕ) → m ≡ min M (suc c) → M ≤ c → m ≡ M
      same M m c e h = omega arith

  -- by the parts, of which none is left
  pub field_told : (V : VectorField) (Ps : List WholePolynomial) (i m d : ℕ) → Ps ≡ V.parts → length Ps ≤ i → m ≡ min (greatest_of norm (take i Ps)) (suc greatest_term_count) → d ≡ min (greatest_of total_degree (take i Ps)) (suc greatest_exponent) → AreLowBounds S n m d ↔ IsBoundedField S n V
  field_told V Ps i m d e l f g = low_told (greatest_of norm V.parts) (greatest_of total_degree V.parts) m d (f ∙ ap (λ Qs. min (greatest_of norm Qs) (suc greatest_term_count)) whole) (g ∙ ap (λ Qs. min (greatest_of total_degree Qs) (suc greatest_exponent)) whole)
    where
      whole : take i Ps ≡ V.parts
      whole = all_taken Ps i l ∙ e
