-- The opening system from the reduced conditions.
use Rattle.std.specs.Prelude.{◌≡◌, ◌≤◌, ◌↔◌, List, [], ◌∷◌, map, Result, Ok, Err, IfOk, OnOk}
use Rattle.std.specs.List.{AllByRecursion as Every}
use Rattle.std.proofs.Common.{refl, sym, subst}
use Rattle.lie_math.specs.LinearForm.{LinearForm}
use Rattle.lie_math.specs.LinearSystem.{LinearSystem, Gives}
use Rattle.lie_math.specs.VectorField.{VectorField}
use Rattle.lie_geometry.specs.Coordinates.{Space}
use Rattle.lie_geometry.specs.Invariance.{IsFieldOn, IsInvariant}
use Rattle.lie_geometry.specs.SolvedEquations.{SolvedEquation, IsSolved, HaveHighLeads}
use Rattle.lie_ring.specs.declared.failures.PolyFail.{PolyFail}
use Rattle.lie_ring.specs.declared.failures.PolyFail.TheVariants.{Past, NoMemory}
use Rattle.lie_jet.specs.Jets.{IsSmall}
use Rattle.lie_determining.specs.Conditions.{condition_of, conditions_of, AreFormActionsWithin, IsFormActionCause}
use Rattle.lie_determining.specs.Equations.{HasDerivativesInZ, IsSystemOf, IsLargeSystem, IsSystemCause}
use Rattle.lie_determining.specs.Openings.{IsOpeningSystem, action, opened, IsOpeningWithin, IsOpeningPast, IsOpeningCause}
use Rattle.lie_systems.specs.Bulk.{system_triple_count}
use Rattle.lie_determining.proofs.DerivativesInZ.{condition_in_z}
use Rattle.lie_determining.proofs.OpeningEquations.{opening_of_system, large_of_system, few_in_opening, opening_says}

module _ (S : Space) (small : IsSmall S) (rs : List SolvedEquation) where
  pub conditions_in_z : (Es : List LinearForm) → Es ≡ conditions_of S rs → Every (HasDerivativesInZ S) Es
  conditions_in_z Es e = subst (Every (HasDerivativesInZ S)) (sym e) (go rs)
    where
      go : (qs : List SolvedEquation) → Every (HasDerivativesInZ S) (map (condition_of S rs) qs)
      go [] = tt
      go (r ∷ qs) = (condition_in_z S small.some_p small.some_q rs r, go qs)

  pub action_cause : (fail : PolyFail) → IsFormActionCause S rs fail → IsOpeningCause S rs fail
  action_cause (Past kind) h = (h.0, action h.0 h.1, h.2)
  action_cause NoMemory h = tt

  module _ (Es : List LinearForm) (e : Es ≡ conditions_of S rs) where
    pub system_opens : (T : LinearSystem) → IsSystemOf S Es T → IsOpeningSystem S rs T
    system_opens T h = opening_of_system S rs T (subst (λ Fs. IsSystemOf S Fs T) e h)

    pub system_cause : (fail : PolyFail) → IsSystemCause S Es fail → IsOpeningCause S rs fail
    system_cause (Past kind) h = subst (λ k. IsOpeningPast S rs k) (sym h.0) (large_of_system S rs (subst (λ Fs. IsLargeSystem S Fs) e h.1))
    system_cause NoMemory h = tt

    pub system_within : (T : LinearSystem) → AreFormActionsWithin S rs → IsSystemOf S Es T → system_triple_count T ≤ 1000000 → IsOpeningWithin S rs
    system_within T actions h few b (action c made) = actions c made
    system_within T actions h few b (opened U opens) = few_in_opening S rs T U (system_opens T h) few opens

  pub system_says : IsSolved rs → HaveHighLeads S rs → (Es : List LinearForm) → Es ≡ conditions_of S rs → (T : LinearSystem) → IsSystemOf S Es T → (V : VectorField) → IsFieldOn S V → IsInvariant S rs V ↔ Gives T V
  system_says solved high Es e T h = opening_says S rs (small.some_p, small.some_q) solved high T (system_opens Es e T h)

pub both_ok : {X E A : Type 0} {P Q : X → Type 0} (r : Result X E) → ((x : X) → P x → Q x → A) → IfOk r P → IfOk r Q → OnOk r A
both_ok (Ok x) f h k = f x h k
both_ok (Err e) f h k = tt
