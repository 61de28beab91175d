-- The commutator of two fields that meet the invariance condition meets it.
use Rattle.std.specs.Prelude.{◌≡◌, ℕ, zero, suc, ◌+◌, ◌-◌, ◌++◌, replicate, ◌<◌, ◌≤◌, Bool, true, false, List, [], ltb, All, slice_index_or, not}
use Rattle.std.proofs.Common.{refl, sym, ap, ap₂, subst, ◌∙◌, arith, ltb-false, ltb-true}
use mathlib.Core.Path.{fun_ext}
use Rattle.lie_math.specs.Derivation.{numbers_below, is_below, derivation}
use Rattle.lie_math.specs.PartialDerivative.{partial}
use Rattle.lie_math.specs.Polynomial.{WholePolynomial, 0ᴾ, ◌+ᴾ◌, ◌*ᴾ◌, negᴾ}
use Rattle.lie_math.specs.Variables.{IsIn}
use Rattle.lie_math.proofs.ChainRule.{chain_rule_below, derivation_is_derivation, derivation-variable}
use Rattle.lie_geometry.specs.Commutator.{commutator_component}
use Rattle.lie_geometry.specs.Coordinates.{Space}
use Rattle.lie_geometry.specs.Invariance.{applied_prolongation, AreInvariant}
use Rattle.lie_geometry.specs.Prolongation.{indices_from, prolonged_coefficient, coefficient_at}
use Rattle.lie_geometry.specs.SolvedEquations.{SolvedEquation, difference, is_lead, reduced}
use Rattle.lie_geometry.proofs.AbstractProlongation.{IsProlonged, bracket_component, bracket_coefficient, bracket_field, bracket_prolonged}
use Rattle.lie_geometry.proofs.Derivations.{field_coefficient, applied_as_derivation}
use Rattle.lie_geometry.proofs.Ideals.{HaveDistinctLeads, HasMultiple, multiple_of_reduced, reduced_of_multiple, multiple_minus, derived_reduced}
use Rattle.lie_geometry.proofs.ProlongedFields.{next, is_prolonged, same_prolonged}
use Rattle.lie_geometry.proofs.Reduction.{NonzeroFactors}
use Rattle.lie_geometry.proofs.SymbolicProlongation.{sum_of-same, coordinate_none, coordinate_base}

indices_zeros : (n i : ℕ) → indices_from i (replicate n 0) ≡ []
indices_zeros zero i = refl
indices_zeros (suc n) i = ap (λ z. ◌++◌ z []) (indices_zeros n (suc i))

module _ (S : Space) (some_p : 0 < S.p) (some_q : 0 < S.q) where
  -- the field_coefficient at a variable of z is the component
  pub field_coefficient_z : (V : ℕ → WholePolynomial) (w : ℕ) → w < S.p + S.q → field_coefficient S V w ≡ V w
  unfolding prolonged_coefficient
  field_coefficient_z V w h = go (ltb w S.p) refl
    where
      go : (t : Bool) → ltb w S.p ≡ t → field_coefficient S V w ≡ V w
      go true e = ap (coefficient_at S V) (coordinate_base S some_p some_q w (ltb-true w S.p e))
      go false e =
          let f : S.p ≤ w = ltb-false w S.p e in
          let g : w ≡ S.p + (w - S.p) = omega arith in
          ap (field_coefficient S V) g ∙ ap (coefficient_at S V) (coordinate_none S some_p some_q _ (omega arith)) ∙ ap (prolonged_coefficient S V _) (indices_zeros S.p 0) ∙ ap V (sym g)

  module _ (V W : ℕ → WholePolynomial) (in_v : (s : ℕ) → IsIn (is_below (S.p + S.q)) (V s)) (in_w : (s : ℕ) → IsIn (is_below (S.p + S.q)) (W s)) where
    along_is : (V : ℕ → WholePolynomial) (f : WholePolynomial) → IsIn (is_below (S.p + S.q)) f → derivation V f ≡ derivation (field_coefficient S V) f
    along_is V f h =
        sym (chain_rule_below (S.p + S.q) V (derivation_is_derivation V) (derivation-variable V) f h)
        ∙ sum_of-same (S.p + S.q) _ _ (λ t g. ap (λ z. z *ᴾ partial t f) (sym (field_coefficient_z V t g))) ∙ chain_rule_below (S.p + S.q) (field_coefficient S V) (derivation_is_derivation (field_coefficient S V)) (derivation-variable (field_coefficient S V)) f h

    components : (s : ℕ) → commutator_component V W s ≡ bracket_component (next S some_p some_q) (numbers_below S.p) V (field_coefficient S V) W (field_coefficient S W) (is_prolonged S some_p some_q V) (is_prolonged S some_p some_q W) s
    components s = ap₂ (λ a b. a +ᴾ negᴾ b) (along_is V (W s) (in_w s)) (along_is W (V s) (in_v s))

    abbrev bracketed : ℕ → WholePolynomial
    bracketed = bracket_coefficient (next S some_p some_q) (numbers_below S.p) V (field_coefficient S V) W (field_coefficient S W) (is_prolonged S some_p some_q V) (is_prolonged S some_p some_q W)

    -- the prolongation of the commutator is the commutator of the prolongations
    pub coefficients : (w : ℕ) → field_coefficient S (commutator_component V W) w ≡ bracketed w
    coefficients =
        same_prolonged S some_p some_q (commutator_component V W) (field_coefficient S (commutator_component V W)) bracketed (is_prolonged S some_p some_q (commutator_component V W))
        (subst (λ x. IsProlonged (next S some_p some_q) (numbers_below S.p) x bracketed) (sym (fun_ext components)) (bracket_prolonged (next S some_p some_q) (numbers_below S.p) V (field_coefficient S V) W (field_coefficient S W) (is_prolonged S some_p some_q V) (is_prolonged S some_p some_q W)))
        (λ w h. field_coefficient_z (commutator_component V W) w h ∙ components w ∙ ap₂ (λ a b. derivation (field_coefficient S V) a +ᴾ negᴾ (derivation (field_coefficient S W) b)) (sym (field_coefficient_z W w h)) (sym (field_coefficient_z V w h)))

    pub prolonged_commutator : (P : WholePolynomial) → derivation (field_coefficient S (commutator_component V W)) P ≡ derivation (field_coefficient S V) (derivation (field_coefficient S W) P) +ᴾ negᴾ (derivation (field_coefficient S W) (derivation (field_coefficient S V) P))
    prolonged_commutator P = ap (λ c. derivation c P) (fun_ext coefficients) ∙ bracket_field (next S some_p some_q) (numbers_below S.p) V (field_coefficient S V) W (field_coefficient S W) (is_prolonged S some_p some_q V) (is_prolonged S some_p some_q W) P

    module _ (rs : List SolvedEquation) (apart : NonzeroFactors rs) (distinct : HaveDistinctLeads rs) (solved : All (λ r. IsIn (λ w. not (is_lead rs w)) r.right) rs) where
      pub commutator_invariant : AreInvariant S rs V → AreInvariant S rs W → AreInvariant S rs (commutator_component V W)
      commutator_invariant h g k d f =
          reduced_of_multiple rs apart distinct solved (applied_prolongation S rs (commutator_component V W) (slice_index_or rs k d))
          (subst (HasMultiple rs apart distinct solved) (sym (applied_as_derivation S some_p some_q rs (commutator_component V W) k d f ∙ prolonged_commutator (difference (slice_index_or rs k d))))
          (multiple_minus rs apart distinct solved _ _
          (derived_reduced rs apart distinct solved (derivation_is_derivation (field_coefficient S V)) (tangent V h) (derivation (field_coefficient S W) (difference (slice_index_or rs k d))) (is_reduced W g k d f))
          (derived_reduced rs apart distinct solved (derivation_is_derivation (field_coefficient S W)) (tangent W g) (derivation (field_coefficient S V) (difference (slice_index_or rs k d))) (is_reduced V h k d f))))
        where
          is_reduced : (V : ℕ → WholePolynomial) → AreInvariant S rs V → All (λ r. reduced rs (derivation (field_coefficient S V) (difference r)) ≡ 0ᴾ) rs
          is_reduced V h k d f = subst (λ P. reduced rs P ≡ 0ᴾ) (applied_as_derivation S some_p some_q rs V k d f) (h k d f)

          tangent : (V : ℕ → WholePolynomial) → AreInvariant S rs V → All (λ r. HasMultiple rs apart distinct solved (derivation (field_coefficient S V) (difference r))) rs
          tangent V h k d f = multiple_of_reduced rs apart distinct solved (derivation (field_coefficient S V) (difference (slice_index_or rs k d))) (is_reduced V h k d f)
