-- Rules that eliminate an unknown by a form over 1: from the clauses of the elimination to those of the rule.
use Rattle.std.specs.Prelude.{◌≡◌, ℕ, List, ◌++◌, ℤ, pos, unsigned_abs}
use Rattle.std.proofs.Common.{sym, ap₂, subst, ◌∙◌, ap, inl, inr}
use Rattle.std.specs.List.{Contains}
use Rattle.lie_math.specs.LinearForm.{LinearForm}
use Rattle.lie_math.specs.LinearSystem.{Unknown, LinearSystem}
use Rattle.lie_systems.specs.Works.{Made, IsWorkWithin}
use Rattle.lie_ring.specs.declared.failures.PolyFail.{PolyFail}
use Rattle.lie_steps.specs.Replacement.{eliminated, replacement_made}
use Rattle.lie_steps.specs.Rules.{Rule, Place, After}
use Rattle.lie_steps.specs.Tidying.{IsTidySystem}
use Rattle.lie_normal.specs.WorkCauses.{IsWorkCause}
use Rattle.lie_normal.proofs.WorkSteps.{work_weaken}
use Rattle.lie_change.specs.Ends.{EndMakes, EliminationMakes, StaysValid}
use Rattle.lie_change.specs.Tried.{TryMakes}
use Rattle.lie_rules.proofs.Steps.{IsStep, WithEnd, try_within, try_cause, later_within, later_cause, front_cause}

module _ (S : LinearSystem) (i f : ℕ) (V W : LinearForm) (L : ℤ) (vs us : List Unknown) (w : W ≡ V) (l : L ≡ pos 1) (u : us ≡ vs) where
  same_system : eliminated S i f W (unsigned_abs L) us ≡ eliminated S i f V 1 vs
  same_system = ap₂ (λ X n. eliminated S i f X (unsigned_abs n) us) w l ∙ ap (eliminated S i f V 1) u

  same_actions : replacement_made S i f W (unsigned_abs L) us ≡ replacement_made S i f V 1 vs
  same_actions = ap₂ (λ X n. replacement_made S i f X (unsigned_abs n) us) w l ∙ ap (replacement_made S i f V 1) u

  pub elimination_stays : (n : ℕ) → StaysValid n (eliminated S i f V 1 vs) → StaysValid n (eliminated S i f W (unsigned_abs L) us)
  elimination_stays n h = subst (StaysValid n) (sym same_system) h

  to_rule : (b : Made) → EliminationMakes S i f W (unsigned_abs L) us (eliminated S i f W (unsigned_abs L) us) b
      → WithEnd (replacement_made S i f V 1 vs) (eliminated S i f V 1 vs) b
  to_rule b (inl c) = inl (subst (λ bs. Contains bs b) same_actions c)
  to_rule b (inr e) = inr (subst (λ X. EndMakes X b) same_system e)

  from_rule : (b : Made) → WithEnd (replacement_made S i f V 1 vs) (eliminated S i f V 1 vs) b
      → EliminationMakes S i f W (unsigned_abs L) us (eliminated S i f W (unsigned_abs L) us) b
  from_rule b (inl c) = inl (subst (λ bs. Contains bs b) (sym same_actions) c)
  from_rule b (inr e) = inr (subst (λ X. EndMakes X b) (sym same_system) e)

  module _ (r : Rule) (p : Place) (front : List Made)
      (h : IsStep r S p (eliminated S i f V 1 vs) (front ++ replacement_made S i f V 1 vs)) where
    pub elimination_leaves : (T : LinearSystem) → IsTidySystem (eliminated S i f W (unsigned_abs L) us) T → After r S p T
    elimination_leaves T t = h.leaves T (subst (λ X. IsTidySystem X T) same_system t)

    pub elimination_within : IsWorkWithin (Contains front)
        → IsWorkWithin (EliminationMakes S i f W (unsigned_abs L) us (eliminated S i f W (unsigned_abs L) us))
        → IsWorkWithin (TryMakes r S p)
    elimination_within a b =
        try_within r S p (eliminated S i f V 1 vs) (front ++ replacement_made S i f V 1 vs) h
        (later_within (eliminated S i f V 1 vs) front (replacement_made S i f V 1 vs) a (λ m e. b m (from_rule m e)))

    pub elimination_cause : (fail : PolyFail)
        → IsWorkCause fail (EliminationMakes S i f W (unsigned_abs L) us (eliminated S i f W (unsigned_abs L) us))
        → IsWorkCause fail (TryMakes r S p)
    elimination_cause fail c =
        try_cause r S p (eliminated S i f V 1 vs) (front ++ replacement_made S i f V 1 vs) h fail
        (later_cause (eliminated S i f V 1 vs) front (replacement_made S i f V 1 vs) fail (work_weaken fail to_rule c))

    pub elimination_front : (fail : PolyFail) → IsWorkCause fail (Contains front) → IsWorkCause fail (TryMakes r S p)
    elimination_front fail c =
        try_cause r S p (eliminated S i f V 1 vs) (front ++ replacement_made S i f V 1 vs) h fail
        (front_cause (eliminated S i f V 1 vs) front (replacement_made S i f V 1 vs) fail c)
