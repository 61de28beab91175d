-- The bulks of the prolonged coefficients are within the limits, by the bound of their norms.
use Rattle.std.specs.Prelude.{◌≡◌, ℕ, zero, suc, ◌+◌, ◌<◌, ◌≤◌, ◌⊎◌, List, [], ◌∷◌, length, take, pos, unsigned_abs}
use Rattle.std.proofs.Common.{refl, sym, ap, ap₂, subst, ◌∙◌, arith, inl, inr, length-append}
use Rattle.lie_math.specs.Counts.{Derivative, order}
use Rattle.lie_math.specs.FiniteSumLaws.{ext, value-none}
use Rattle.lie_math.specs.Limits.{absolute, IsWithinLimits}
use Rattle.lie_math.specs.LinearForm.{forms, LinearForm, ◌+ᶠ◌, each_coefficient}
use Rattle.lie_math.specs.Monomial.{Monomial}
use Rattle.lie_math.specs.Natural.{naturals}
use Rattle.lie_math.specs.Polynomial.{WholePolynomial, terms, coefficient, 0ᴾ}
use Rattle.lie_math.specs.SortedSum.{sum_of_entries}
use Rattle.lie_math.proofs.Decisions.{Decided, number_decided, at_most_or_greater}
use Rattle.lie_math.proofs.FiniteSum.{entries_of}
use Rattle.lie_math.proofs.Integer.{unsigned_abs_zero}
use Rattle.lie_geometry.specs.Coordinates.{Space, Coordinate, independent, jet, IsCoordinate, order_of, number, coordinate, coordinates_up_to}
use Rattle.lie_geometry.specs.Norms.{count_of_numbers}
use Rattle.lie_geometry.specs.Prolongation.{indices}
use Rattle.lie_geometry.specs.SymbolicNorms.{IsBoundedAt, bulk_of_step}
use Rattle.lie_geometry.specs.SymbolicProlongation.{symbolic_total, symbolic_coefficient_at, unknown}
use Rattle.lie_geometry.proofs.NormLaws.{coefficients_are_bounded, bounded_is_within_limits, bound_is_small}
use Rattle.lie_geometry.proofs.Numbers.{coordinate_is, count_rises}
use Rattle.lie_geometry.proofs.NumberOrder.{order_below, number_below_bound}
use Rattle.lie_systems.specs.Bulk.{IsFormWithinLimits}
use Rattle.lie_systems.specs.Triples.{triples, triples_in, triples_with}
use Rattle.lie_systems.specs.Works.{OnCoefficients, OnExponents, OnTerms, OnOrders, AForm}
use Rattle.lie_systems.proofs.WorkLimits.{not_within_and_past}
use Rattle.lie_ring.specs.declared.failures.PastKind.{PastKind}
use Rattle.lie_ring.specs.declared.failures.PastKind.TheVariants.{Coefficient, Exponent, Terms, Order, Unknowns, Width}
use Rattle.lie_ring.specs.declared.failures.PolyFail.TheVariants.{Past}
use Rattle.lie_jet.specs.JetLists.{AreJetsUpTo, HoldsUpTo}
use Rattle.lie_jet.specs.Jets.{coordinate_of, IsJet, IsSmall}
use Rattle.lie_jet.specs.Lowered.{IsLowered}
use Rattle.lie_jet.specs.declared.jet.Jet.{Jet}
use Rattle.lie_jet.proofs.JetLists.{cut, lower_order, jets_count}
use Rattle.lie_form.specs.FormLimits.{IsFormPast, IsFormCoefficientCause}
use Rattle.lie_form.proofs.FormBounds.{at}
use Rattle.lie_form.proofs.FormCauses.{coefficient_cause, length-with, IsLowEntry, within_limits}
use Rattle.lie_symbolic.specs.SymbolicBulks.{symbolic_multiples, symbolic_coefficient_bulk, symbolic_bulk_at}
use Rattle.lie_symbolic.proofs.SymbolicSteps.{symbolic_bulk_stepped, unknown_within}

-- ---- a form within the limits is past none
pub form_apart : (kind : PastKind) (E : LinearForm) → IsFormWithinLimits E → IsFormPast kind E → ⊥
form_apart Coefficient E w a = not_within_and_past OnCoefficients (AForm E) w a
form_apart Exponent E w a = not_within_and_past OnExponents (AForm E) w a
form_apart Terms E w a = not_within_and_past OnTerms (AForm E) w a
form_apart Order E w a = not_within_and_past OnOrders (AForm E) w a
form_apart Unknowns E w a = a
form_apart Width E w a = a

pub never_past : (kind : PastKind) (E : LinearForm) → IsFormWithinLimits E → IsFormCoefficientCause (Past kind) E → ⊥
never_past kind E w cause = form_apart kind E w (coefficient_cause (Past kind) E cause)

-- ---- what is bounded is within the limits
triples_counted : (E : LinearForm) → length (triples E) ≡ count_of_numbers E
triples_counted E = go E.list
  where
    go : (es : List (Derivative × WholePolynomial)) → length (triples_in es) ≡ sum_of_entries naturals (λ (d : Derivative) (a : WholePolynomial). length a.list) es
    go [] = refl
    go (e ∷ es) = length-append (triples_with e.0 e.1.list) (triples_in es) ∙ ap₂ ◌+◌ (length-with e.0 e.1.list) (go es)

no_numbers : (p : WholePolynomial) → ((m : Monomial) → ¬ (¬ (coefficient p m ≡ pos 0))) → p ≡ 0ᴾ
no_numbers p none = ext terms p 0ᴾ (λ m. by m (number_decided (unsigned_abs (coefficient p m)) 0) ∙ sym (value-none terms m))
  where
    by : (m : Monomial) → Decided (unsigned_abs (coefficient p m) ≡ 0) → coefficient p m ≡ pos 0
    by m (inl e) = unsigned_abs_zero (coefficient p m) e
    by m (inr n) = absurd (none m (λ z. n (ap unsigned_abs z)))

module _ (S : Space) (small : IsSmall S) where
  bounded_within : (k : ℕ) → k ≤ 6 → (E : LinearForm) → IsBoundedAt S k E → IsFormWithinLimits E
  bounded_within k low E b = within_limits E (entries_of forms E IsLowEntry (λ e is apart. (subst IsWithinLimits is (limits.0 e.0), by e is apart (at_most_or_greater (order (e.0).counts) 64)))) (subst (λ n. n ≤ 1000000) (sym (triples_counted E)) limits.1)
    where
      limits : ((d : Derivative) → IsWithinLimits (at E d)) × (count_of_numbers E ≤ 1000000)
      limits = bounded_is_within_limits S k (bound_is_small S small.few_p small.few_q k low) (let l : k ≤ 64 = omega arith in l) E b

      by : (e : Derivative × WholePolynomial) → at E e.0 ≡ e.1 → ¬ (e.1 ≡ 0ᴾ) → (order (e.0).counts ≤ 64) ⊎ (64 < order (e.0).counts) → order (e.0).counts ≤ 64
      by e is apart (inl h) = h
      by e is apart (inr h) = absurd (apart (sym is ∙ no_numbers (at E e.0) (λ m n. let l : order (e.0).counts ≤ k = b.orders e.0 m n in omega arith)))

  bulk_within : (a : ℕ) (J : List ℕ) → length J ≡ S.p → order J ≤ 6 → IsFormWithinLimits (symbolic_coefficient_bulk S a (indices J))
  bulk_within a J e low = by (indices J) refl
    where
      by : (W : List ℕ) → indices J ≡ W → IsFormWithinLimits (symbolic_coefficient_bulk S a W)
      by [] h = unknown_within (S.p + a)
      by (k ∷ W) h = bounded_within (order J) low (bulk_of_step S a k W) ((coefficients_are_bounded S (small.some_p, small.some_q) a J e).1 k W h)

  pub coefficients_within : HoldsUpTo S 6 (λ c. IsFormWithinLimits (symbolic_bulk_at S c))
  coefficients_within w after inside = by (coordinate S w) (coordinate_is S small.some_p small.some_q w).0 ((order_below S small.some_p small.some_q w 6).1 inside)
    where
      by : (c : Coordinate) → IsCoordinate S c → order_of c ≤ 6 → IsFormWithinLimits (symbolic_bulk_at S c)
      by (independent i) is low = unknown_within i
      by (jet a J) is low = bulk_within a J is.1 low

  -- ---- the coefficient at an independent variable
  pub independent_coefficient : (w : ℕ) → w < S.p → unknown w ≡ symbolic_coefficient_at S (coordinate S w)
  unfolding number
  independent_coefficient w h = by (coordinate S w) (coordinate_is S small.some_p small.some_q w).1
    where
      by : (c : Coordinate) → number S c ≡ w → unknown w ≡ symbolic_coefficient_at S c
      by (independent i) e = ap unknown (sym e)
      by (jet a J) e = absurd (omega arith)

  -- ---- a coordinate of order at most 6
  pub jet_at : (w : ℕ) (j : Jet) → IsJet S 12 j → coordinate S w ≡ coordinate_of S j → w < coordinates_up_to S 6 → IsJet S 6 j
  jet_at w j is e h = lower_order S small 6 12 j is (subst (λ (c : Coordinate). order_of c ≤ 6) e ((order_below S small.some_p small.some_q w 6).1 h))

  pub low_is_independent : (w : ℕ) → (w < S.p) ⊎ (coordinates_up_to S 12 ≤ w) → w < coordinates_up_to S 6 → w < S.p
  low_is_independent w (inl h) low = h
  low_is_independent w (inr h) low = absurd (high _ _ _ h low (count_rises S small.some_p small.some_q 6 12 (omega arith)))
    where
      high : (w a b : ℕ) → b ≤ w → w < a → a ≤ b → ⊥
      high w a b h k g = omega arith

  pub jets_counted : (n : ℕ) (js : List Jet) → AreJetsUpTo S n js → S.p + length js ≡ coordinates_up_to S n
  jets_counted n js are = ap (λ m. S.p + m) (jets_count S n js are)

-- ---- there are few coordinates
few_numbers : (S : Space) (small : IsSmall S) (n w : ℕ) → n ≤ 6 → w < coordinates_up_to S n → w < 7284
unfolding number
few_numbers S small n w few inside = by (coordinate S w) (coordinate_is S small.some_p small.some_q w) ((order_below S small.some_p small.some_q w n).1 inside)
  where
    by : (c : Coordinate) → IsCoordinate S c × (number S c ≡ w) → order_of c ≤ n → w < 7284
    by (independent i) is low = let e : i ≡ w = is.1 in let h : i < S.p = is.0 in let p = small.few_p in omega arith
    by (jet a J) is low = let b = number_below_bound S small.some_p small.few_p small.some_q small.few_q a J is.0 (omega arith) in let e : number S (jet a J) ≡ w = is.1 in omega arith

pub few_coordinates : (S : Space) → IsSmall S → (n : ℕ) → n ≤ 6 → coordinates_up_to S n ≤ 7284
few_coordinates S small n few = by (coordinates_up_to S n) refl
  where
    by : (c : ℕ) → coordinates_up_to S n ≡ c → c ≤ 7284
    by zero e = omega arith
    by (suc w) e = let h = few_numbers S small n w few (let q : w < suc w = omega arith in subst (λ m. w < m) (sym e) q) in omega arith

-- ---- a step of the recursion
module _ (S : Space) (j l : Jet) (k : ℕ) (is : IsJet S 6 j) (low : IsLowered S j k l) where
  pub lower_jet : IsJet S 6 l
  lower_jet = lower_order S is.space 6 11 l low.jet (let e = low.order_less in let h = is.low in omega arith)

  pub step_within : (E : LinearForm) → E ≡ symbolic_coefficient_at S (coordinate_of S l) → IsFormWithinLimits (symbolic_total S k (each_coefficient absolute E) +ᶠ symbolic_multiples S k l.dep (take S.p l.counts))
  step_within E e =
      subst IsFormWithinLimits (sym (ap (λ (F : LinearForm). symbolic_total S k (each_coefficient absolute F) +ᶠ symbolic_multiples S k l.dep (take S.p l.counts)) e ∙ symbolic_bulk_stepped S j l k low))
      (bulk_within S is.space j.dep (take S.p j.counts) (cut S 6 j is) is.low)
