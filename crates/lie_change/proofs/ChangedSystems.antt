-- Systems whose equations are taken out, changed and put back.
use Rattle.std.specs.Prelude.{◌≡◌, ℕ, ◌+◌, List, [], IfErr, OnOk, OnErr}
use Rattle.std.specs.declared.result.Result.{Result}
use Rattle.std.proofs.Common.{refl, sym, subst, subst₂, ◌∙◌}
use Rattle.std.proofs.lemmas.Result.{MatchResult-weaker, on_ok_weaker, on_err_weaker}
use Rattle.lie_geometry.specs.Coordinates.{Space}
use Rattle.lie_math.specs.LinearForm.{LinearForm}
use Rattle.lie_math.specs.LinearSystem.{LinearSystem}
use Rattle.lie_systems.specs.ValidSystems.{IsValid}
use Rattle.lie_systems.specs.Works.{IsWorkWithin}
use Rattle.lie_ring.specs.declared.failures.PolyFail.{PolyFail}
use Rattle.lie_lin.specs.Systems.{with_equations}
use Rattle.lie_lin.proofs.AddedEquations.{no_equations_sorted}
use Rattle.lie_normal.specs.WorkCauses.{IsWorkCause}
use Rattle.lie_steps.specs.Tidying.{IsTidied}
use Rattle.lie_change.specs.Ends.{EndMakes, StaysValid}
use Rattle.lie_change.specs.Lists.{TidiedMakes}
use Rattle.lie_change.proofs.SystemEnds.{end_within, end_cause, valid_either}

if_err_weaker : {T E : Type 0} (r : Result T E) {P Q : E → Type 0} → ((e : E) → P e → Q e) → IfErr r P → IfErr r Q
if_err_weaker r f h = MatchResult-weaker r h (λ x k. k) f

-- ---- validity
pub emptied_valid : (n : ℕ) (T : LinearSystem) → IsValid n T → IsValid n (with_equations T [])
emptied_valid n T v = record {
  rising = v.rising;
  below = v.below;
  variables = v.variables;
  equations = tt;
  normalised = tt;
  ordered = no_equations_sorted;
  general = v.general;
  components = v.components;
}

-- what is valid is valid where it is the same
pub valid_at : (s t : Space) (X Y : LinearSystem) → s ≡ t → X ≡ Y → IsValid (t.p + t.q) Y → IsValid (s.p + s.q) X
valid_at s t X Y e f h = subst₂ (λ (u : Space) (Z : LinearSystem). IsValid (u.p + u.q) Z) (sym e) (sym f) h

-- ---- the same system with other equations
module _ (S : LinearSystem) (Es Xs Gs Ns : List LinearForm) (es : Xs ≡ Es) (gs : Gs ≡ S.general) where
  changed_within : IsWorkWithin (TidiedMakes Xs Gs) → IsWorkWithin (EndMakes (with_equations S Es))
  changed_within h = end_within (with_equations S Es) (subst₂ (λ Fs Hs. IsWorkWithin (TidiedMakes Fs Hs)) es gs h)

  pub changed_cause : (fail : PolyFail) → IsWorkCause fail (TidiedMakes Xs Gs) → IsWorkCause fail (EndMakes (with_equations S Es))
  changed_cause fail c = end_cause (with_equations S Es) fail (subst₂ (λ Fs Hs. IsWorkCause fail (TidiedMakes Fs Hs)) es gs c)

  module _ {A : Type 0} (r : Result A PolyFail) where
    pub fits_changed : OnOk r (IsWorkWithin (TidiedMakes Xs Gs)) → OnOk r (IsWorkWithin (EndMakes (with_equations S Es)))
    fits_changed h = on_ok_weaker r changed_within h

    pub past_changed : IfErr r (λ fail. IsWorkCause fail (TidiedMakes Xs Gs))
        → IfErr r (λ fail. IsWorkCause fail (EndMakes (with_equations S Es)))
    past_changed h = if_err_weaker r changed_cause h

    -- either is valid
    pub valid_changed : (n : ℕ) (start : List LinearForm) → start ≡ S.equations → IsValid n S → StaysValid n (with_equations S Es)
        → OnOk r (IsTidied Xs Ns) → OnErr r (Ns ≡ start) → IsValid n (with_equations S Ns)
    valid_changed n start e v s h k = valid_either n S Es Ns r v s (on_ok_weaker r (λ t. subst (λ Fs. IsTidied Fs Ns) es t) h)
        (on_err_weaker r (λ q. q ∙ e) k)

-- equations that were tidied
pub left_valid : (n : ℕ) (X : LinearSystem) (Xs Ns : List LinearForm) → Xs ≡ X.equations → IsTidied Xs Ns → StaysValid n X
    → IsValid n (with_equations X Ns)
left_valid n X Xs Ns e h s = s (with_equations X Ns) (record {
  unknowns = refl;
  equations = subst
      (λ Fs. IsTidied Fs Ns) e h;
  general = refl;
  next = refl;
})
