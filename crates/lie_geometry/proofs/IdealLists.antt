-- The ideal of the equations, told by their list: a polynomial is reduced to 0 exactly if a power product of the factors times it is a sum of multiples of the differences.
use Rattle.std.specs.Prelude.{◌≡◌, ℕ, zero, suc, ◌<◌, Bool, true, false, cond, List, [], ◌∷◌, ◌↔◌, length, eqb, All, slice_index_or, pos}
use Rattle.std.proofs.Common.{refl, sym, ap, ap₂, subst, ◌∙◌, arith, eqb-true, eq-eqb}
use Rattle.std.proofs.lemmas.Bool.{ne_eqb, eqb-false}
use Rattle.lie_math.specs.Canonical.{middle}
use Rattle.lie_math.specs.FiniteSumLaws.{plus_idl, plus_comm}
use Rattle.lie_math.specs.Polynomial.{terms, WholePolynomial, 0ᴾ, ◌+ᴾ◌, polynomials, ◌*ᴾ◌, constant, variable, negᴾ}
use Rattle.lie_math.specs.PolynomialRing.{+ᴾ-*ᴾ, *ᴾ-dist, *ᴾ_assoc, one-*ᴾ, polynomial_ring}
use Rattle.lie_math.proofs.Ring.{plus_idr, times_nil, nil_times}
use Rattle.lie_geometry.specs.SolvedEquations.{SolvedEquation, difference, is_lead, IsSolved, replacement, factor_powers, reduced}
use Rattle.lie_geometry.specs.InvarianceLaws.{LiesInIdeal, HasMultipleInIdeal, HasPowerProductInIdeal}
use Rattle.lie_geometry.proofs.AbstractReduction.{combined, InIdeal, in_sum, in_multiple, ideal-0ᴾ, in_one, in_same}
use Rattle.lie_geometry.proofs.Booleans.{or_left, or_right}
use Rattle.lie_geometry.proofs.Ideals.{HaveDistinctLeads, distinct_leads, multiplier, Δ, factor_powers_apart, power_product_of_reduced, reduced_of_multiple}
use Rattle.lie_geometry.proofs.Reduction.{degrees_of, rest_all}

-- ---- sums and multiples
lies_in_sum : (rs : List SolvedEquation) (p q : WholePolynomial) → LiesInIdeal rs p → LiesInIdeal rs q → LiesInIdeal rs (p +ᴾ q)
lies_in_sum [] p q h k = ap₂ ◌+ᴾ◌ h k ∙ plus_idl terms 0ᴾ
lies_in_sum (r ∷ rs) p q h k = (
  h.0 +ᴾ k.0,
  h.1 +ᴾ k.1,
  lies_in_sum rs h.1 k.1 h.2 k.2,
  ap₂ ◌+ᴾ◌ h.3 k.3 ∙ middle polynomials (h.0 *ᴾ difference r) h.1 (k.0 *ᴾ difference r) k.1 ∙ ap (λ z. z +ᴾ (h.1 +ᴾ k.1)) (sym (+ᴾ-*ᴾ h.0 k.0 (difference r))),
)

lies_in_multiple : (rs : List SolvedEquation) (a p : WholePolynomial) → LiesInIdeal rs p → LiesInIdeal rs (a *ᴾ p)
lies_in_multiple [] a p h = ap (λ z. a *ᴾ z) h ∙ times_nil polynomial_ring a
lies_in_multiple (r ∷ rs) a p h = (
  a *ᴾ h.0,
  a *ᴾ h.1,
  lies_in_multiple rs a h.1 h.2,
  ap (λ z. a *ᴾ z) h.3 ∙ *ᴾ-dist a _ _ ∙ ap (λ z. z +ᴾ a *ᴾ h.1) (sym (*ᴾ_assoc a h.0 (difference r))),
)

lies_in_none : (rs : List SolvedEquation) → LiesInIdeal rs 0ᴾ
lies_in_none [] = refl
lies_in_none (r ∷ rs) = (0ᴾ, 0ᴾ, lies_in_none rs, sym (ap (λ z. z +ᴾ 0ᴾ) (nil_times polynomial_ring (difference r)) ∙ plus_idl terms 0ᴾ))

-- ---- the differences at the variables
at_variable_lies : (rs : List SolvedEquation) (w : ℕ) → LiesInIdeal rs (constant (multiplier rs w) *ᴾ variable w +ᴾ negᴾ (replacement rs w))
at_variable_lies [] w = ap (λ z. z +ᴾ negᴾ (variable w)) (one-*ᴾ (variable w)) ∙ plus_comm terms _ _ ∙ polynomial_ring.neg_l (variable w)
at_variable_lies (r ∷ rs) w = by (eqb w r.lead) refl (at_variable_lies rs w)
  where
    by : (t : Bool) → eqb w r.lead ≡ t → LiesInIdeal rs (constant (multiplier rs w) *ᴾ variable w +ᴾ negᴾ (replacement rs w))
        → LiesInIdeal (r ∷ rs) (constant (cond t r.factor (multiplier rs w)) *ᴾ variable w +ᴾ negᴾ (cond t r.right (replacement rs w)))
    by true e h = (
      constant (pos 1),
      0ᴾ,
      lies_in_none rs,
      sym (ap (λ z. z +ᴾ 0ᴾ) (one-*ᴾ (difference r)) ∙ plus_idr polynomial_ring _ ∙ ap (λ x. constant r.factor *ᴾ variable x +ᴾ negᴾ r.right) (sym (eqb-true w r.lead e))),
    )
    by false e h =
        let Q : WholePolynomial = constant (multiplier rs w) *ᴾ variable w +ᴾ negᴾ (replacement rs w) in
        (0ᴾ, Q, h, sym (ap (λ z. z +ᴾ Q) (nil_times polynomial_ring (difference r)) ∙ plus_idl terms Q))

record IsAtLead (rs : List SolvedEquation) (r : SolvedEquation) : Type 0 where
  multiple : multiplier rs r.lead ≡ r.factor
  right : replacement rs r.lead ≡ r.right

not_lead_at : (rs : List SolvedEquation) (w : ℕ) → is_lead rs w ≡ false → All (λ r. eqb w r.lead ≡ false) rs
not_lead_at [] w h k d g = absurd (omega arith)
not_lead_at (r ∷ rs) w h zero d g = or_left (eqb w r.lead) (is_lead rs w) h
not_lead_at (r ∷ rs) w h (suc k) d g = not_lead_at rs w (or_right (eqb w r.lead) (is_lead rs w) h) k d (less g)
  where
    less : suc k < length (r ∷ rs) → k < length rs
    less g = omega arith

at_leads : (rs : List SolvedEquation) → HaveDistinctLeads rs → All (IsAtLead rs) rs
at_leads [] h k d g = absurd (omega arith)
at_leads (r ∷ rs) h zero d g = record { multiple = ap (λ t. cond t r.factor (multiplier rs r.lead)) (itself r.lead); right = ap (λ t. cond t r.right (replacement rs r.lead)) (itself r.lead) }
  where
    itself : (n : ℕ) → eqb n n ≡ true
    itself n = eq-eqb n n refl
at_leads (r ∷ rs) h (suc k) d g =
    let s : SolvedEquation = slice_index_or rs k d in
    let x = at_leads rs h.1 k d (less g) in
    let apart : eqb s.lead r.lead ≡ false = turned r.lead s.lead (not_lead_at rs r.lead h.0 k d (less g)) in
    record { multiple = ap (λ t. cond t r.factor (multiplier rs s.lead)) apart ∙ x.multiple; right = ap (λ t. cond t r.right (replacement rs s.lead)) apart ∙ x.right }
  where
    less : suc k < length (r ∷ rs) → k < length rs
    less g = omega arith

    turned : (a b : ℕ) → eqb a b ≡ false → eqb b a ≡ false
    turned a b e = ne_eqb b a (λ q. eqb-false a b e (sym q))

module _ (rs : List SolvedEquation) (solved : IsSolved rs) where
  distinct : HaveDistinctLeads rs
  distinct = distinct_leads rs solved.leads

  abbrev differences : ℕ → WholePolynomial
  differences = Δ rs solved.factors distinct solved.rights

  lies_of : (P : WholePolynomial) → InIdeal differences P → LiesInIdeal rs P
  unfolding combined
  lies_of P h = subst (LiesInIdeal rs) h.is (go h.parts)
    where
      go : (es : List (WholePolynomial × ℕ)) → LiesInIdeal rs (combined differences es)
      go [] = lies_in_none rs
      go (e ∷ es) = lies_in_sum rs _ _ (lies_in_multiple rs e.0 _ (at_variable_lies rs e.1)) (go es)

  difference_lies : All (λ r. InIdeal differences (difference r)) rs
  difference_lies k d g =
      let r : SolvedEquation = slice_index_or rs k d in
      let x = at_leads rs distinct k d g in
      in_same differences (ap₂ (λ c p. constant c *ᴾ variable r.lead +ᴾ negᴾ p) x.multiple x.right) (in_one differences r.lead)

  of_lies : (P : WholePolynomial) → LiesInIdeal rs P → InIdeal differences P
  of_lies P h = go rs P h difference_lies
    where
      go : (ss : List SolvedEquation) (Q : WholePolynomial) → LiesInIdeal ss Q → All (λ r. InIdeal differences (difference r)) ss → InIdeal differences Q
      go [] Q h i = in_same differences (sym h) (ideal-0ᴾ differences)
      go (r ∷ ss) Q h i = in_same differences (sym h.3) (in_sum differences (in_multiple differences h.0 (i 0 r (omega arith))) (go ss h.1 h.2 (rest_all (λ r. InIdeal differences (difference r)) r ss i)))

  reduced_in : (P : WholePolynomial) → reduced rs P ≡ 0ᴾ → HasPowerProductInIdeal rs P
  reduced_in P h = (degrees_of P, lies_of _ (power_product_of_reduced rs solved.factors distinct solved.rights P h))

  multiple_reduced : (P : WholePolynomial) → HasMultipleInIdeal rs P → reduced rs P ≡ 0ᴾ
  multiple_reduced P h = reduced_of_multiple rs solved.factors distinct solved.rights P (record { number = h.0; nonzero = h.1; is = of_lies _ h.2 })

  power_product_reduced : (P : WholePolynomial) → HasPowerProductInIdeal rs P → reduced rs P ≡ 0ᴾ
  power_product_reduced P h = multiple_reduced P (factor_powers rs h.0, factor_powers_apart rs solved.factors h.0, h.1)

  pub reduced_is_in_ideal : (P : WholePolynomial) → (reduced rs P ≡ 0ᴾ ↔ HasPowerProductInIdeal rs P) × (HasMultipleInIdeal rs P → HasPowerProductInIdeal rs P)
  reduced_is_in_ideal P = ((reduced_in P, power_product_reduced P), λ h. reduced_in P (multiple_reduced P h))
