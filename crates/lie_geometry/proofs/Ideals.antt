-- What is reduced to 0 is what has a multiple by a number in the ideal of the equations.
use Rattle.std.specs.Prelude.{◌≡◌, ℕ, zero, suc, ◌+◌, ◌-◌, ◌≤◌, Bool, true, false, cond, not, ◌||◌, List, [], ◌∷◌, eqb, leb, All, ℤ, pos, negsuc, ◌*ℤ◌, AllPairs, slice_index_or, ◌<◌, length}
use Rattle.std.proofs.Common.{refl, sym, ap, ap₂, subst, ◌∙◌, arith, true≢false, eqb-true, is_eq}
use Rattle.std.proofs.lemmas.Bool.{leb-true, eqb-false, ne_eqb}
use mathlib.Core.Path.{fun_ext}
use lib.IntN.{*ℤ_comm, zero-*ℤ, *ℤ-zero}
use Rattle.std.specs.Ordering.{eq_by_cmp, nat_cmp}
use Rattle.std.specs.Cmp.{tied_itself}
use Rattle.std.proofs.lemmas.List.Folds.{list_any_none}
use Rattle.lie_math.proofs.Differences.{less_nothing, sum_of_differences, difference_of_products, sum_of_multiples}
use Rattle.lie_math.specs.FiniteSum as finite
use Rattle.lie_math.proofs.FiniteSum as finite_proofs
use Rattle.lie_math.specs.Canonical.{middle, sum_of_entries-map}
use Rattle.lie_math.specs.Derivation.{IsDerivation}
use Rattle.lie_math.specs.Evaluation.{factors, to_power, monomial_value, value_in}
use Rattle.lie_math.specs.FiniteSumLaws.{sum-none, sum-term, sum-plus, value-plus, value-none, value-term, plus_comm}
use Rattle.lie_math.specs.Integer.{*ℤ_assoc, *ℤ-idl, integer_algebra}
use Rattle.lie_math.specs.Monomial.{powers, Monomial, exponent, unit, ◌·◌, single}
use Rattle.lie_math.specs.MonomialOrder.{·_idl}
use Rattle.lie_math.specs.Polynomial.{term, terms, WholePolynomial, 0ᴾ, ◌+ᴾ◌, polynomials, over_terms, ◌*ᴾ◌, constant, variable, negᴾ}
use Rattle.lie_math.specs.PolynomialRing.{*ᴾ-dist, *ᴾ_assoc, one-*ᴾ, polynomial_ring, term_times_term, constant-times, polynomial_algebra}
use Rattle.lie_math.specs.Variables.{IsIn}
use Rattle.lie_math.proofs.Derivation.{derived-0ᴾ}
use Rattle.lie_math.proofs.Evaluation.{to_power-plus, to_power_additive, value_in-plus, value_in-0ᴾ, value_in-term, value_in-constant, value_in-variable, value_in-times, generated}
use Rattle.lie_math.proofs.Integer.{product_not_zero, one_not_zero}
use Rattle.lie_math.proofs.LinearMap.{over_terms-term, over_terms-inside}
use Rattle.lie_math.proofs.Ring.{plus_idr, times_nil, nil_times}
use Rattle.lie_math.proofs.RingSolver.{v, ◌⊗◌, solve, listed}
use Rattle.lie_math.proofs.Substitution.{value_in_itself}
use Rattle.lie_math.proofs.Variables.{in-variable, value_in_agrees}
use Rattle.lie_math.proofs.Weighing.{scaled_additive, weigh, weigh-plus, weigh-term, weigh-times}
use Rattle.lie_geometry.specs.SolvedEquations.{SolvedEquation, difference, is_lead, replacement, missing_powers, factor_powers, reduced_by, reduced}
use Rattle.lie_geometry.proofs.AbstractReduction.{InIdeal, in_sum, in_multiple, ideal-0ᴾ, in_same, weight, grown, replaced, step_difference, difference_in, reduces_in, in_reduces}
use Rattle.lie_geometry.proofs.Booleans.{and_left, and_right, or_left, or_right}
use Rattle.lie_geometry.proofs.Reduction.{degrees_of, replacement_other, fits, inside, Bounded, inside_all, power_apart, NonzeroFactors, rest_all, bounded_reduced}

-- what a variable is multiplied by
abbrev pub multiplier : List SolvedEquation → ℕ → ℤ
multiplier [] w = pos 1
multiplier (r ∷ rs) w = cond (eqb w r.lead) r.factor (multiplier rs w)

abbrev pub product : List SolvedEquation → ℤ
product [] = pos 1
product (r ∷ rs) = r.factor *ℤ product rs

abbrev pub others : List SolvedEquation → ℕ → ℤ
others [] w = pos 1
others (r ∷ rs) w = cond (eqb w r.lead) (product rs) (r.factor *ℤ others rs w)

pub others_is : (rs : List SolvedEquation) (w : ℕ) → others rs w *ℤ multiplier rs w ≡ product rs
others_is [] w = refl
others_is (r ∷ rs) w = elim (eqb w r.lead) as (λ t. cond t (product rs) (r.factor *ℤ others rs w) *ℤ cond t r.factor (multiplier rs w) ≡ r.factor *ℤ product rs) [
  | true ↦ *ℤ_comm (product rs) r.factor
  | false ↦ *ℤ_assoc r.factor (others rs w) (multiplier rs w) ∙ ap (λ z. r.factor *ℤ z) (others_is rs w)
]

multiplier_apart : (rs : List SolvedEquation) → NonzeroFactors rs → (w : ℕ) → ¬ (multiplier rs w ≡ pos 0)
multiplier_apart [] h w = one_not_zero
multiplier_apart (r ∷ rs) h w = elim (eqb w r.lead) as (λ t. ¬ (cond t r.factor (multiplier rs w) ≡ pos 0)) [
  | true ↦ h 0 r (omega arith)
  | false ↦ multiplier_apart rs (rest_all (λ r. ¬ (r.factor ≡ pos 0)) r rs h) w
]

product_apart : (rs : List SolvedEquation) → NonzeroFactors rs → ¬ (product rs ≡ pos 0)
product_apart [] h = one_not_zero
product_apart (r ∷ rs) h = product_not_zero r.factor (product rs) (h 0 r (omega arith)) (product_apart rs (rest_all (λ r. ¬ (r.factor ≡ pos 0)) r rs h))

multiplier_other : (rs : List SolvedEquation) (w : ℕ) → is_lead rs w ≡ false → multiplier rs w ≡ pos 1
multiplier_other [] w h = refl
multiplier_other (r ∷ rs) w h = ap (λ t. cond t r.factor (multiplier rs w)) (or_left (eqb w r.lead) (is_lead rs w) h) ∙ multiplier_other rs w (or_right (eqb w r.lead) (is_lead rs w) h)

-- ---- the power product of the multipliers
abbrev lead_powers : List SolvedEquation → Monomial → ℤ
lead_powers [] m = pos 1
lead_powers (r ∷ rs) m = to_power integer_algebra r.factor (exponent m r.lead) *ℤ lead_powers rs m

lead_powers-unit : (rs : List SolvedEquation) → lead_powers rs unit ≡ pos 1
lead_powers-unit [] = refl
lead_powers-unit (r ∷ rs) = ap₂ (λ n z. to_power integer_algebra r.factor n *ℤ z) (value-none powers r.lead) (lead_powers-unit rs)

lead_powers-· : (rs : List SolvedEquation) (m n : Monomial) → lead_powers rs (m · n) ≡ lead_powers rs m *ℤ lead_powers rs n
lead_powers-· [] m n = refl
lead_powers-· (r ∷ rs) m n = ap₂ ◌*ℤ◌ (ap (to_power integer_algebra r.factor) (value-plus powers m n r.lead) ∙ to_power-plus integer_algebra r.factor (exponent m r.lead) (exponent n r.lead)) (lead_powers-· rs m n)
    ∙ middle (factors integer_algebra) (to_power integer_algebra r.factor (exponent m r.lead)) (to_power integer_algebra r.factor (exponent n r.lead)) (lead_powers rs m) (lead_powers rs n)

pub one_power : (n : ℕ) → to_power integer_algebra (pos 1) n ≡ pos 1
one_power zero = refl
one_power (suc n) = *ℤ-idl _ ∙ one_power n

exponent_apart : (w e l : ℕ) → eqb w l ≡ false → exponent (finite.term powers w e) l ≡ 0
exponent_apart w e l h = value-term powers w e l ∙ go (eq_by_cmp nat_cmp l w) refl
  where
    go : (t : Bool) → eq_by_cmp nat_cmp l w ≡ t → ◌≡◌ {A = ℕ} (cond t e 0) 0
    go true f = absurd (eqb-false w l h (sym (finite_proofs.key powers l w f)))
    go false f = refl

exponent_same : (w e l : ℕ) → eqb w l ≡ true → exponent (finite.term powers w e) l ≡ e
exponent_same w e l h = value-term powers w e l ∙ ap (λ x. cond (eq_by_cmp nat_cmp l x) e 0) (eqb-true w l h) ∙ ap (λ r. cond (is_eq r) e 0) (tied_itself powers.total l)

lead_powers-other : (rs : List SolvedEquation) (w e : ℕ) → is_lead rs w ≡ false → lead_powers rs (finite.term powers w e) ≡ pos 1
lead_powers-other [] w e h = refl
lead_powers-other (r ∷ rs) w e h = by (eqb w r.lead) refl h (lead_powers-other rs w e)
  where
    by : (t : Bool) → eqb w r.lead ≡ t → t || is_lead rs w ≡ false → (is_lead rs w ≡ false → lead_powers rs (finite.term powers w e) ≡ pos 1) → lead_powers (r ∷ rs) (finite.term powers w e) ≡ pos 1
    by true f g ih = absurd (true≢false g)
    by false f g ih = ap₂ (λ n z. to_power integer_algebra r.factor n *ℤ z) (exponent_apart w e r.lead f) (ih g)

-- no lead stands among those after it
abbrev pub HaveDistinctLeads : List SolvedEquation → Type 0
HaveDistinctLeads [] = Unit {0}
HaveDistinctLeads (r ∷ rs) = (is_lead rs r.lead ≡ false) × HaveDistinctLeads rs

pub distinct_leads : (rs : List SolvedEquation) → AllPairs (λ r s. ¬ (r.lead ≡ s.lead)) rs → HaveDistinctLeads rs
distinct_leads [] h = tt
distinct_leads (r ∷ rs) h = (
  list_any_none (λ s. eqb r.lead s.lead) rs (λ k d g. ne_eqb r.lead (slice_index_or rs k d).lead (h 0 (suc k) d (omega arith) (less k g))),
  distinct_leads rs (λ i j d f g. h (suc i) (suc j) d (omega arith) (less j g)),
)
  where
    less : (k : ℕ) → k < length rs → suc k < length (r ∷ rs)
    less k g = omega arith

lead_powers-term : (rs : List SolvedEquation) → HaveDistinctLeads rs → (w e : ℕ) → lead_powers rs (finite.term powers w e) ≡ to_power integer_algebra (multiplier rs w) e
lead_powers-term [] d w e = sym (one_power e)
lead_powers-term (r ∷ rs) d w e = by (eqb w r.lead) refl (lead_powers-term rs d.1 w e)
  where
    by : (t : Bool) → eqb w r.lead ≡ t → lead_powers rs (finite.term powers w e) ≡ to_power integer_algebra (multiplier rs w) e → lead_powers (r ∷ rs) (finite.term powers w e) ≡ to_power integer_algebra (cond t r.factor (multiplier rs w)) e
    by true f ih = ap₂ (λ n z. to_power integer_algebra r.factor n *ℤ z) (exponent_same w e r.lead f) (lead_powers-other rs w e (ap (is_lead rs) (eqb-true w r.lead f) ∙ d.0)) ∙ *ℤ_comm (to_power integer_algebra r.factor e) (pos 1) ∙ *ℤ-idl (to_power integer_algebra r.factor e)
    by false f ih = ap₂ (λ n z. to_power integer_algebra r.factor n *ℤ z) (exponent_apart w e r.lead f) ih ∙ *ℤ-idl _

pub factor_powers_apart : (rs : List SolvedEquation) → NonzeroFactors rs → (e : ℕ → ℕ) → ¬ (factor_powers rs e ≡ pos 0)
factor_powers_apart [] h e = one_not_zero
factor_powers_apart (r ∷ rs) h e = product_not_zero _ _ (power_apart r.factor (h 0 r (omega arith)) (e r.lead)) (factor_powers_apart rs (rest_all (λ r. ¬ (r.factor ≡ pos 0)) r rs h) e)

missing_powers_fill : (rs : List SolvedEquation) (e : ℕ → ℕ) (m : Monomial) → fits rs e m ≡ true → missing_powers rs e m *ℤ lead_powers rs m ≡ factor_powers rs e
missing_powers_fill [] e m h = refl
missing_powers_fill (r ∷ rs) e m h =
    middle (factors integer_algebra) (to_power integer_algebra r.factor (e r.lead - exponent m r.lead)) (missing_powers rs e m) (to_power integer_algebra r.factor (exponent m r.lead)) (lead_powers rs m)
    ∙ ap₂ ◌*ℤ◌ (sym (to_power-plus integer_algebra r.factor (e r.lead - exponent m r.lead) (exponent m r.lead)) ∙ ap (to_power integer_algebra r.factor) (back (exponent m r.lead) (e r.lead) (leb-true _ _ (and_left (leb (exponent m r.lead) (e r.lead)) (fits rs e m) h)))) (missing_powers_fill rs e m (and_right (leb (exponent m r.lead) (e r.lead)) (fits rs e m) h))
  where
    back : (n e : ℕ) → n ≤ e → (e - n) + n ≡ e
    back n e h = omega arith

module _ (rs : List SolvedEquation) (apart : NonzeroFactors rs) (distinct : HaveDistinctLeads rs) (solved : All (λ r. IsIn (λ w. not (is_lead rs w)) r.right) rs) where
  abbrev c : ℕ → ℤ
  c = multiplier rs

  abbrev right : ℕ → WholePolynomial
  right = replacement rs

  abbrev splits : (w : ℕ) → others rs w *ℤ multiplier rs w ≡ product rs
  splits = others_is rs

  -- the differences: the equations at the leads, and 0 at the other variables
  abbrev pub Δ : ℕ → WholePolynomial
  Δ = step_difference c right (product rs) (others rs) splits

  abbrev W : Monomial → ℤ
  W = weight c right (product rs) (others rs) splits

  abbrev G : WholePolynomial → WholePolynomial
  G = grown c right (product rs) (others rs) splits

  abbrev R : WholePolynomial → WholePolynomial
  R = replaced c right (product rs) (others rs) splits

  weight_is : (m : Monomial) → W m ≡ lead_powers rs m
  unfolding weight
  weight_is = finite_proofs.induct powers (λ m. monomial_value integer_algebra c m ≡ lead_powers rs m)
      (sum-none powers (factors integer_algebra) _ (to_power_additive integer_algebra c) ∙ sym (lead_powers-unit rs))
      (λ w e m h. sum-plus powers (factors integer_algebra) _ (to_power_additive integer_algebra c) (finite.term powers w e) m
      ∙ ap₂ ◌*ℤ◌ (sum-term powers (factors integer_algebra) _ (to_power_additive integer_algebra c) w e ∙ sym (lead_powers-term rs distinct w e)) h ∙ sym (lead_powers-· rs (finite.term powers w e) m))

  weight_times : (m n : Monomial) → W (m · n) ≡ W m *ℤ W n
  unfolding weight
  weight_times m n = sum-plus powers (factors integer_algebra) _ (to_power_additive integer_algebra c) m n

  grown-constant : (z : ℤ) → G (constant z) ≡ constant z
  grown-constant z = weigh-term W unit z ∙ ap (term unit) (ap (λ y. z *ℤ y) (weight_is unit ∙ lead_powers-unit rs) ∙ *ℤ_comm z (pos 1) ∙ *ℤ-idl z)

  grown-variable : (w : ℕ) → G (variable w) ≡ constant (c w) *ᴾ variable w
  grown-variable w =
      weigh-term W (single w) (pos 1) ∙ ap (term (single w)) (ap (λ z. pos 1 *ℤ z) (weight_is (single w) ∙ lead_powers-term rs distinct w 1 ∙ *ℤ_comm (c w) (pos 1) ∙ *ℤ-idl (c w)) ∙ *ℤ_comm (pos 1) (c w))
      ∙ sym (term_times_term unit (single w) (c w) (pos 1) ∙ ap (λ m. term m (c w *ℤ pos 1)) (·_idl (single w)))

  -- to multiply each variable by its number is to put the multiples in
  grown_is : (p : WholePolynomial) → G p ≡ value_in polynomial_algebra (λ w. constant (c w) *ᴾ variable w) p
  grown_is = generated (λ p. G p ≡ value_in polynomial_algebra (λ w. constant (c w) *ᴾ variable w) p)
      (λ z. grown-constant z ∙ sym (value_in-constant polynomial_algebra _ z))
      (λ w. grown-variable w ∙ sym (value_in-variable polynomial_algebra _ w))
      (λ p q h k. weigh-plus W p q ∙ ap₂ ◌+ᴾ◌ h k ∙ sym (value_in-plus polynomial_algebra _ p q))
      (λ p q h k. weigh-times W weight_times p q ∙ ap₂ ◌*ᴾ◌ h k ∙ sym (value_in-times polynomial_algebra _ p q))

  other : (w : ℕ) → not (is_lead rs w) ≡ true → is_lead rs w ≡ false
  other w h = flip (is_lead rs w) h
    where
      flip : (t : Bool) → not t ≡ true → t ≡ false
      flip true h = absurd (true≢false (sym h))
      flip false h = refl

  grown_plain : (p : WholePolynomial) → IsIn ((λ w. not (is_lead rs w))) p → G p ≡ p
  grown_plain p h = grown_is p ∙ value_in_agrees ((λ w. not (is_lead rs w))) polynomial_algebra (λ w. constant (c w) *ᴾ variable w) variable (λ w e. ap (λ z. constant z *ᴾ variable w) (multiplier_other rs w (other w e)) ∙ one-*ᴾ (variable w)) p h ∙ value_in_itself p

  replaced_plain : (p : WholePolynomial) → IsIn ((λ w. not (is_lead rs w))) p → R p ≡ p
  replaced_plain p h = value_in_agrees ((λ w. not (is_lead rs w))) polynomial_algebra right variable (λ w e. replacement_other rs w (other w e)) p h ∙ value_in_itself p

  right_plain : (w : ℕ) → IsIn ((λ w. not (is_lead rs w))) (right w)
  right_plain w = go (is_lead rs w) refl
    where
      found : (ss : List SolvedEquation) → All (λ r. IsIn ((λ w. not (is_lead rs w))) r.right) ss → is_lead ss w ≡ true → IsIn ((λ w. not (is_lead rs w))) (replacement ss w)
      found [] h e = absurd (true≢false (sym e))
      found (r ∷ ss) h e = by (eqb w r.lead) e (found ss (rest_all (λ r. IsIn ((λ w. not (is_lead rs w))) r.right) r ss h))
        where
          by : (t : Bool) → t || is_lead ss w ≡ true → (is_lead ss w ≡ true → IsIn ((λ w. not (is_lead rs w))) (replacement ss w)) → IsIn ((λ w. not (is_lead rs w))) (cond t r.right (replacement ss w))
          by true e ih = h 0 r (omega arith)
          by false e ih = ih e

      go : (t : Bool) → is_lead rs w ≡ t → IsIn ((λ w. not (is_lead rs w))) (right w)
      go true e = found rs solved e
      go false e = subst (IsIn ((λ w. not (is_lead rs w)))) (sym (replacement_other rs w e)) (in-variable ((λ w. not (is_lead rs w))) w (ap not e))

  -- ---- the reduction in the terms of the theory
  abbrev q_of : (ℕ → ℕ) → WholePolynomial → WholePolynomial
  q_of e P = weigh (missing_powers rs e) P

  reduced_as_value : (e : ℕ → ℕ) (P : WholePolynomial) → reduced_by rs e P ≡ R (q_of e P)
  unfolding reduced_by weigh
  reduced_as_value e P =
      sym (sum_of_entries-map polynomials polynomials R (value_in-0ᴾ polynomial_algebra right) (value_in-plus polynomial_algebra right) (λ k a. term k (a *ℤ missing_powers rs e k)) P.list
      ∙ ap (λ φ. over_terms φ P) (fun_ext (λ m. fun_ext (λ a. value_in-term polynomial_algebra right m (a *ℤ missing_powers rs e m)))))

  grown_q : (e : ℕ → ℕ) (P : WholePolynomial) → Bounded rs e P → G (q_of e P) ≡ constant (factor_powers rs e) *ᴾ P
  unfolding weigh
  grown_q e P b =
      ap (λ p. G (q_of e p)) (sym (inside_all rs e P b))
      ∙ ap G (over_terms-inside (λ k a. term k (a *ℤ missing_powers rs e k)) (scaled_additive (missing_powers rs e)) (λ k a. term k (a *ℤ inside rs e k)) P)
      ∙ over_terms-inside (λ k a. term k (a *ℤ W k)) (scaled_additive W) (λ k a. over_terms (λ k a. term k (a *ℤ missing_powers rs e k)) (term k (a *ℤ inside rs e k))) P
      ∙ ap (λ φ. over_terms φ P) (fun_ext (λ k. fun_ext (λ a.
      ap G (over_terms-term (λ k a. term k (a *ℤ missing_powers rs e k)) (scaled_additive (missing_powers rs e)) k (a *ℤ inside rs e k)) ∙ over_terms-term (λ k a. term k (a *ℤ W k)) (scaled_additive W) k _
      ∙ ap (term k) (ap (λ z. ((a *ℤ inside rs e k) *ℤ missing_powers rs e k) *ℤ z) (weight_is k) ∙ at k a (fits rs e k) refl)
      ∙ sym (term_times_term unit k (factor_powers rs e) (a *ℤ inside rs e k) ∙ ap (λ m. term m (factor_powers rs e *ℤ (a *ℤ inside rs e k))) (·_idl k)))))
      ∙ sym (sum_of_entries-map polynomials polynomials (λ z. constant (factor_powers rs e) *ᴾ z) (times_nil polynomial_ring (constant (factor_powers rs e))) (*ᴾ-dist (constant (factor_powers rs e))) (λ k a. term k (a *ℤ inside rs e k)) P.list)
      ∙ ap (λ z. constant (factor_powers rs e) *ᴾ z) (inside_all rs e P b)
    where
      at : (k : Monomial) (a : ℤ) (t : Bool) → fits rs e k ≡ t → ((a *ℤ cond t (pos 1) (pos 0)) *ℤ missing_powers rs e k) *ℤ lead_powers rs k ≡ factor_powers rs e *ℤ (a *ℤ cond t (pos 1) (pos 0))
      at k a true f = *ℤ_assoc (a *ℤ pos 1) (missing_powers rs e k) (lead_powers rs k) ∙ ap (λ z. (a *ℤ pos 1) *ℤ z) (missing_powers_fill rs e k f) ∙ *ℤ_comm (a *ℤ pos 1) (factor_powers rs e)
      at k a false f = ap (λ z. (z *ℤ missing_powers rs e k) *ℤ lead_powers rs k) (*ℤ-zero a) ∙ ap (λ z. z *ℤ lead_powers rs k) (zero-*ℤ (missing_powers rs e k)) ∙ zero-*ℤ (lead_powers rs k) ∙ sym (ap (λ z. factor_powers rs e *ℤ z) (*ℤ-zero a) ∙ *ℤ-zero (factor_powers rs e))

  -- a multiple of P by a number that is not 0 lies in the ideal of the equations
  pub record HasMultiple (P : WholePolynomial) : Type 0 where
    pub number : ℤ
    pub nonzero : ¬ (number ≡ pos 0)
    pub is : InIdeal Δ (constant number *ᴾ P)

  pub power_product_of_reduced : (P : WholePolynomial) → reduced rs P ≡ 0ᴾ → InIdeal Δ (constant (factor_powers rs (degrees_of P)) *ᴾ P)
  power_product_of_reduced P h = reduces_in c right (product rs) (others rs) splits (factor_powers rs (degrees_of P)) P (q_of (degrees_of P) P) (grown_q (degrees_of P) P (bounded_reduced rs P)) (sym (reduced_as_value (degrees_of P) P) ∙ h)

  pub multiple_of_reduced : (P : WholePolynomial) → reduced rs P ≡ 0ᴾ → HasMultiple P
  multiple_of_reduced P h = record { number = factor_powers rs (degrees_of P); nonzero = factor_powers_apart rs apart (degrees_of P); is = power_product_of_reduced P h }

  pub reduced_of_multiple : (P : WholePolynomial) → HasMultiple P → reduced rs P ≡ 0ᴾ
  reduced_of_multiple P h =
      reduced_as_value (degrees_of P) P
      ∙ in_reduces c right (product rs) (others rs) splits (multiplier_apart rs apart) (product_apart rs apart) (λ w. grown_plain (right w) (right_plain w)) (λ w. replaced_plain (right w) (right_plain w))
      (factor_powers rs (degrees_of P)) h.number P (q_of (degrees_of P) P) (factor_powers_apart rs apart (degrees_of P)) h.nonzero (grown_q (degrees_of P) P (bounded_reduced rs P)) h.is

  -- ---- derivations that keep the ideal
  abbrev I : WholePolynomial → Type 0
  I P = InIdeal Δ P

  multiple_none : HasMultiple 0ᴾ
  multiple_none = record { number = pos 1; nonzero = one_not_zero; is = in_same Δ (sym (times_nil polynomial_ring (constant (pos 1)))) (ideal-0ᴾ Δ) }

  multiple_sum : (p q : WholePolynomial) → HasMultiple p → HasMultiple q → HasMultiple (p +ᴾ q)
  multiple_sum p q h k = record {
    number = h.number *ℤ k.number;
    nonzero = product_not_zero h.number k.number h.nonzero k.nonzero;
    is = in_same Δ (sum_of_multiples (constant h.number) (constant k.number) p q ∙ ap (λ z. z *ᴾ (p +ᴾ q)) (sym (constant-times h.number k.number))) (in_sum Δ (in_multiple Δ (constant k.number) h.is) (in_multiple Δ (constant h.number) k.is));
  }

  pub multiple_times : (a p : WholePolynomial) → HasMultiple p → HasMultiple (a *ᴾ p)
  multiple_times a p h = record { number = h.number; nonzero = h.nonzero; is = in_same Δ (turned a (constant h.number) p) (in_multiple Δ a h.is) }
    where
      turned : (a n p : WholePolynomial) → a *ᴾ (n *ᴾ p) ≡ n *ᴾ (a *ᴾ p)
      turned a n p = solve polynomial_ring (listed a (a ∷ n ∷ p ∷ [])) (v 0 ⊗ (v 1 ⊗ v 2)) (v 1 ⊗ (v 0 ⊗ v 2)) refl

  multiple_of_in : (p : WholePolynomial) → I p → HasMultiple p
  multiple_of_in p h = record { number = pos 1; nonzero = one_not_zero; is = in_same Δ (sym (one-*ᴾ p)) h }

  multiple_same : (p q : WholePolynomial) → p ≡ q → HasMultiple p → HasMultiple q
  multiple_same p q e h = subst HasMultiple e h

  pub multiple_minus : (p q : WholePolynomial) → HasMultiple p → HasMultiple q → HasMultiple (p +ᴾ negᴾ q)
  multiple_minus p q h k = multiple_sum p (negᴾ q) h (multiple_times (constant (negsuc 0)) q k)

  pub multiple_off : (n : ℤ) → ¬ (n ≡ pos 0) → (p : WholePolynomial) → HasMultiple (constant n *ᴾ p) → HasMultiple p
  multiple_off n an p h = record { number = h.number *ℤ n; nonzero = product_not_zero h.number n h.nonzero an; is = in_same Δ (sym (*ᴾ_assoc (constant h.number) (constant n) p) ∙ ap (λ z. z *ᴾ p) (sym (constant-times h.number n))) h.is }

  module _ {D : WholePolynomial → WholePolynomial} (d : IsDerivation D) (tangent : All (λ r. HasMultiple (D (difference r))) rs) where
    -- at each variable
    at_variable : (w : ℕ) → HasMultiple (D (constant (c w) *ᴾ variable w +ᴾ negᴾ (right w)))
    at_variable w = found rs tangent
      where
        found : (ss : List SolvedEquation) → All (λ r. HasMultiple (D (difference r))) ss → HasMultiple (D (constant (multiplier ss w) *ᴾ variable w +ᴾ negᴾ (replacement ss w)))
        found [] h = multiple_same 0ᴾ _ (sym (ap D (ap (λ z. z +ᴾ negᴾ (variable w)) (one-*ᴾ (variable w)) ∙ plus_comm terms _ _ ∙ polynomial_ring.neg_l (variable w)) ∙ derived-0ᴾ d)) multiple_none
        found (r ∷ ss) h = by (eqb w r.lead) refl (found ss (rest_all (λ r. HasMultiple (D (difference r))) r ss h))
          where
            by : (t : Bool) → eqb w r.lead ≡ t → HasMultiple (D (constant (multiplier ss w) *ᴾ variable w +ᴾ negᴾ (replacement ss w)))
                → HasMultiple (D (constant (cond t r.factor (multiplier ss w)) *ᴾ variable w +ᴾ negᴾ (cond t r.right (replacement ss w))))
            by true e ih = multiple_same _ _ (ap (λ x. D (constant r.factor *ᴾ variable x +ᴾ negᴾ r.right)) (sym (eqb-true w r.lead e))) (h 0 r (omega arith))
            by false e ih = ih

    derived_difference : (q : WholePolynomial) → HasMultiple (D (G q +ᴾ negᴾ (R q)))
    derived_difference = generated (λ q. HasMultiple (D (G q +ᴾ negᴾ (R q))))
        (λ z. multiple_same 0ᴾ _ (sym (ap D (ap₂ (λ a b. a +ᴾ negᴾ b) (grown-constant z) (value_in-constant polynomial_algebra right z) ∙ plus_comm terms _ _ ∙ polynomial_ring.neg_l (constant z)) ∙ derived-0ᴾ d)) multiple_none)
        (λ w. multiple_same _ _ (ap D (sym (ap₂ (λ a b. a +ᴾ negᴾ b) (grown-variable w) (value_in-variable polynomial_algebra right w)))) (at_variable w))
        (λ p q h k. multiple_same _ _ (sym (d.plus _ _) ∙ ap D (sum_of_differences (G p) (R p) (G q) (R q) ∙ ap₂ (λ a b. a +ᴾ negᴾ b) (sym (weigh-plus W p q)) (sym (value_in-plus polynomial_algebra right p q)))) (multiple_sum _ _ h k))
        (λ p q h k. multiple_same _ _
        (sym (d.plus _ _ ∙ ap₂ ◌+ᴾ◌ (d.times (G p) (G q +ᴾ negᴾ (R q))) (d.times (R q) (G p +ᴾ negᴾ (R p)))) ∙ ap D (difference_of_products (G p) (R p) (G q) (R q) ∙ ap₂ (λ a b. a +ᴾ negᴾ b) (sym (weigh-times W weight_times p q)) (sym (value_in-times polynomial_algebra right p q))))
        (multiple_sum _ _
        (multiple_sum _ _ (multiple_times (G p) _ k) (multiple_times (D (G p)) _ (multiple_of_in _ (difference_in c right (product rs) (others rs) splits q))))
        (multiple_sum _ _ (multiple_times (R q) _ h) (multiple_times (D (R q)) _ (multiple_of_in _ (difference_in c right (product rs) (others rs) splits p))))))

    -- what is reduced to 0 is still, when it is derived
    pub derived_reduced : (P : WholePolynomial) → reduced rs P ≡ 0ᴾ → HasMultiple (D P)
    derived_reduced P h = multiple_off (factor_powers rs (degrees_of P)) (factor_powers_apart rs apart (degrees_of P)) (D P) (multiple_same _ _ same (derived_difference (q_of (degrees_of P) P)))
      where
        n : WholePolynomial
        n = constant (factor_powers rs (degrees_of P))

        same : D (G (q_of (degrees_of P) P) +ᴾ negᴾ (R (q_of (degrees_of P) P))) ≡ n *ᴾ D P
        same = ap D (ap₂ (λ a b. a +ᴾ negᴾ b) (grown_q (degrees_of P) P (bounded_reduced rs P)) (sym (reduced_as_value (degrees_of P) P) ∙ h) ∙ less_nothing (n *ᴾ P)) ∙ d.times n P ∙ ap (λ z. n *ᴾ D P +ᴾ z *ᴾ P) (d.whole (factor_powers rs (degrees_of P))) ∙ ap (λ z. n *ᴾ D P +ᴾ z) (nil_times polynomial_ring P) ∙ plus_idr polynomial_ring (n *ᴾ D P)
