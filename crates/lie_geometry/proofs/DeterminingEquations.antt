-- The determining equations, and that they hold exactly of the fields that meet the invariance condition.
use Rattle.std.specs.Prelude.{◌≡◌, ℕ, ◌+◌, ◌<◌, ◌≤◌, true, false, ◌||◌, List, [], ◌∷◌, ◌↔◌, All, slice_index_or}
use Rattle.std.proofs.Common.{refl, sym, ap₂, subst, ◌∙◌, arith, ltb-true}
use Rattle.std.proofs.lemmas.Bool.{ne_eqb}
use Rattle.lie_math.proofs.Variables.{max_left, max_right}
use Rattle.lie_math.specs.Counts.{Derivative, derived}
use Rattle.lie_math.specs.LinearForm.{LinearForm, each_coefficient, apply}
use Rattle.lie_math.specs.Monomial.{Monomial}
use Rattle.lie_math.specs.Natural.{maxima}
use Rattle.lie_math.specs.Polynomial.{WholePolynomial, 0ᴾ, polynomials, ◌*ᴾ◌}
use Rattle.lie_math.specs.Powers.{degree_in}
use Rattle.lie_math.specs.SortedSum.{sum_of_entries}
use Rattle.lie_math.specs.Variables.{IsIn}
use Rattle.lie_math.proofs.LinearForm.{apply_each}
use Rattle.lie_geometry.specs.Coordinates.{Space}
use Rattle.lie_geometry.specs.DeterminingEquations.{symbolic_reduced, part, determining_equation}
use Rattle.lie_geometry.specs.Invariance.{applied_prolongation, AreInvariant}
use Rattle.lie_geometry.specs.Prolongation.{is_in_z, InZ}
use Rattle.lie_geometry.specs.SolvedEquations.{SolvedEquation, is_lead, HaveHighLeads, reduced_by, reduced}
use Rattle.lie_geometry.specs.SymbolicProlongation.{symbolic_application, field_of}
use Rattle.lie_geometry.proofs.Parts.{part_linear, part_out, parts_zero, zero_parts}
use Rattle.lie_geometry.proofs.Reduction.{degrees_of, reduced_by_additive, reduced_by_out, Bounded, bounded_none, bounded-+ᴾ, bounded_out, bounded_greatest, NonzeroFactors, rest_all, same_zero, bounded_reduced}
use Rattle.lie_geometry.proofs.SymbolicProlongation.{partials_in, apply_symbolic_application}

abbrev coefficients_greatest : List (Derivative × WholePolynomial) → ℕ → ℕ
coefficients_greatest es w = sum_of_entries maxima (λ d a. degree_in w a) es

pub not_lead : (S : Space) (rs : List SolvedEquation) → HaveHighLeads S rs → (w : ℕ) → is_in_z S w ≡ true → is_lead rs w ≡ false
not_lead S [] h w e = refl
not_lead S (r ∷ rs) h w e = ap₂ ◌||◌ (ne_eqb w r.lead (differ (h 0 r (omega arith)) (ltb-true w (S.p + S.q) e))) (not_lead S rs (rest_all (λ r. S.p + S.q ≤ r.lead) r rs h) w e)
  where
    differ : S.p + S.q ≤ r.lead → w < S.p + S.q → w ≡ r.lead → ⊥
    differ h g e = omega arith

module _ (S : Space) (some_p : 0 < S.p) (some_q : 0 < S.q) (rs : List SolvedEquation) (high : HaveHighLeads S rs) (apart : NonzeroFactors rs) (F : ℕ → WholePolynomial) (in_z : (n : ℕ) → InZ S (F n)) where
  derivative_in_z : (d : Derivative) → IsIn (is_in_z S) (derived F d)
  derivative_in_z d = partials_in S some_p some_q F in_z d.unknown d.counts

  bounded_coefficients : (e : ℕ → ℕ) (E : LinearForm) → ((w : ℕ) → coefficients_greatest E.list w ≤ e w) → Bounded rs e (apply F E)
  unfolding apply
  bounded_coefficients e E h = go E.list h
    where
      go : (es : List (Derivative × WholePolynomial)) → ((w : ℕ) → coefficients_greatest es w ≤ e w) → Bounded rs e (sum_of_entries polynomials (λ d a. a *ᴾ derived F d) es)
      go [] h = bounded_none rs e
      go (x ∷ es) h = bounded-+ᴾ rs e _ _
          (bounded_out rs e (is_in_z S) (not_lead S rs high) x.1 (derived F x.0) (derivative_in_z x.0) (bounded_greatest rs e x.1 (λ w. max_left (degrees_of x.1 w) (coefficients_greatest es w) (e w) (h w))))
          (go es (λ w. max_right (degrees_of x.1 w) (coefficients_greatest es w) (e w) (h w)))

  -- reduction commutes with putting in
  pub apply_symbolic_reduced : (E : LinearForm) → apply F (symbolic_reduced rs E) ≡ reduced_by rs (coefficients_greatest E.list) (apply F E)
  apply_symbolic_reduced E = apply_each F (reduced_by_additive rs (coefficients_greatest E.list)) (λ d a. reduced_by_out rs (coefficients_greatest E.list) (is_in_z S) (not_lead S rs high) a (derived F d) (derivative_in_z d)) E

  pub apply_form_part : (μ : Monomial) (E : LinearForm) → apply F (each_coefficient (part (is_in_z S) μ) E) ≡ part (is_in_z S) μ (apply F E)
  apply_form_part μ E = apply_each F (part_linear (is_in_z S) μ) (λ d a. part_out (is_in_z S) μ a (derived F d) (derivative_in_z d)) E

  -- a form whose coefficients are reduced says 0 exactly if what it says is reduced to 0
  pub reduced_zero : (E : LinearForm) → apply F (symbolic_reduced rs E) ≡ 0ᴾ ↔ reduced rs (apply F E) ≡ 0ᴾ
  reduced_zero E = (
    λ h. same_zero rs apart (coefficients_greatest E.list) (degrees_of (apply F E)) (apply F E) by_tops (bounded_reduced rs (apply F E)) (sym (apply_symbolic_reduced E) ∙ h),
    λ h. apply_symbolic_reduced E ∙ same_zero rs apart (degrees_of (apply F E)) (coefficients_greatest E.list) (apply F E) (bounded_reduced rs (apply F E)) by_tops h,
  )
    where
      itself : (n : ℕ) → n ≤ n
      itself n = omega arith

      by_tops : Bounded rs (coefficients_greatest E.list) (apply F E)
      by_tops = bounded_coefficients (coefficients_greatest E.list) E (λ w. itself (coefficients_greatest E.list w))

  -- the equations of one rule
  pub determining_one : (r : SolvedEquation) → ((μ : Monomial) → apply F (determining_equation S rs r μ) ≡ 0ᴾ) ↔ reduced rs (applied_prolongation S rs (field_of F) r) ≡ 0ᴾ
  determining_one r = (
    λ h. subst (λ P. reduced rs P ≡ 0ᴾ) (apply_symbolic_application S some_p some_q F in_z rs r) ((reduced_zero (symbolic_application S rs r)).0 (parts_zero (is_in_z S) _ (λ μ. sym (apply_form_part μ (symbolic_reduced rs (symbolic_application S rs r))) ∙ h μ))),
    λ h μ. apply_form_part μ (symbolic_reduced rs (symbolic_application S rs r)) ∙ zero_parts (is_in_z S) _ ((reduced_zero (symbolic_application S rs r)).1 (subst (λ P. reduced rs P ≡ 0ᴾ) (sym (apply_symbolic_application S some_p some_q F in_z rs r)) h)) μ,
  )

  -- the functions F solve the determining equations exactly if the field of them meets the invariance condition
  pub determining_is : All (λ r. (μ : Monomial) → apply F (determining_equation S rs r μ) ≡ 0ᴾ) rs ↔ AreInvariant S rs (field_of F)
  determining_is = (λ h k d g. (determining_one (slice_index_or rs k d)).0 (h k d g), λ h k d g. (determining_one (slice_index_or rs k d)).1 (h k d g))
