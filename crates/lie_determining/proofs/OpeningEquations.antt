-- The equations of the reduced conditions are the opening equations; these are determining equations, and there is one list of them.
use Rattle.std.specs.Prelude.{◌≡◌, ◌≤◌, ◌⊎◌, ◌↔◌, List, map}
use Rattle.std.proofs.Common.{refl, sym, subst, inl, inr}
use Rattle.std.specs.List.{AllByRecursion as Every, Any, Contains}
use Rattle.std.proofs.lemmas.List.Elements.{All-from_recursion}
use Rattle.lie_math.specs.LinearForm.{LinearForm, no_form, IsMultipleOf}
use Rattle.lie_math.specs.LinearSystem.{LinearSystem, Gives}
use Rattle.lie_math.specs.Monomial.{Monomial}
use Rattle.lie_math.specs.VectorField.{VectorField}
use Rattle.lie_geometry.specs.CoordinateLaws.{IsSpace}
use Rattle.lie_geometry.specs.Coordinates.{Space}
use Rattle.lie_geometry.specs.DeterminingEquations.{symbolic_reduced, determining_equation, determining_system, IsDetermining}
use Rattle.lie_geometry.specs.Invariance.{IsInvariant, IsFieldOn}
use Rattle.lie_geometry.specs.SolvedEquations.{SolvedEquation, IsSolved, HaveHighLeads}
use Rattle.lie_geometry.specs.SymbolicProlongation.{symbolic_application}
use Rattle.lie_geometry.proofs.Fields.{invariant_is_given}
use Rattle.lie_systems.specs.Normalised.{primitive}
use Rattle.lie_systems.specs.EquationOrder.{equation_cmp}
use Rattle.lie_systems.proofs.EquationOrder.{equation_cmp_total}
use Rattle.lie_systems.proofs.Primitive.{multiple_of_primitive}
use Rattle.lie_determining.specs.Openings.{AreOpeningEquations, IsNormalisedEquation, IsOpeningSystem, opened, IsOpeningPast}
use Rattle.lie_systems.specs.Bulk.{system_triple_count}
use Rattle.lie_systems.specs.Works.{Triples}
use Rattle.lie_ring.specs.declared.failures.PastKind.TheVariants.{Terms}
use Rattle.lie_determining.specs.Equations.{AreEquationsOf, IsNormalisedPart, part_of_form, IsSystemOf, IsLargeSystem}
use Rattle.lie_determining.proofs.SortedLists.{all_of_map, all_in_map, any_of_map, any_in_map, every_of, same_elements}

-- ---- the conditions are the reduced applications
abbrev pub condition : Space → List SolvedEquation → SolvedEquation → LinearForm
condition S rs r = symbolic_reduced rs (symbolic_application S rs r)

abbrev pub conditions : Space → List SolvedEquation → List LinearForm
conditions S rs = map (condition S rs) rs

module _ (S : Space) (rs : List SolvedEquation) where
  pub opening_of_equations : (es : List LinearForm) → AreEquationsOf S (conditions S rs) es → AreOpeningEquations S rs es
  opening_of_equations es h = record {
    all = all_of_map (condition S rs) (λ E. (μ : Monomial) → (part_of_form S E μ ≡ no_form) ⊎ Contains es (primitive (part_of_form S E μ))) rs h.all;
    alone = every_of (IsNormalisedPart S (conditions S rs)) (IsNormalisedEquation S rs) es
        (λ e a. any_of_map (condition S rs) (λ E. (μ : Monomial) × (¬ (part_of_form S E μ ≡ no_form)) × (e ≡ primitive (part_of_form S E μ))) rs a) h.alone;
    ordered = h.ordered;
  }

  pub equations_of_opening : (es : List LinearForm) → AreOpeningEquations S rs es → AreEquationsOf S (conditions S rs) es
  equations_of_opening es h = record {
    all = all_in_map (condition S rs) (λ E. (μ : Monomial) → (part_of_form S E μ ≡ no_form) ⊎ Contains es (primitive (part_of_form S E μ))) rs h.all;
    alone = every_of (IsNormalisedEquation S rs) (IsNormalisedPart S (conditions S rs)) es
        (λ e a. any_in_map (condition S rs) (λ E. (μ : Monomial) × (¬ (part_of_form S E μ ≡ no_form)) × (e ≡ primitive (part_of_form S E μ))) rs a) h.alone;
    ordered = h.ordered;
  }

  pub opening_of_system : (T : LinearSystem) → IsSystemOf S (conditions S rs) T → IsOpeningSystem S rs T
  opening_of_system T h = (h.0, opening_of_equations h.0 h.1, h.2)

  pub large_of_system : IsLargeSystem S (conditions S rs) → IsOpeningPast S rs Terms
  large_of_system h = (Triples (system_triple_count h.0), opened h.0 (opening_of_system h.0 h.1), h.2)

  -- ---- they are determining equations
  pub determining_of_opening : (es : List LinearForm) → AreOpeningEquations S rs es → IsDetermining S rs es
  determining_of_opening es h = record {
    all = λ k d g μ. elim (h.all k d g μ) [
      | inl e ↦ inl e
      | inr c ↦ inr (c.0, primitive (determining_equation S rs _ μ), c.1, c.2, multiple_of_primitive (determining_equation S rs _ μ))
    ];
    alone = All-from_recursion (λ G. Any (λ r. (μ : Monomial) × IsMultipleOf (determining_equation S rs r μ) G) rs) es
        (every_of (IsNormalisedEquation S rs) (λ G. Any (λ r. (μ : Monomial) × IsMultipleOf (determining_equation S rs r μ) G) rs) es
        (λ e a. (a.0, a.1, a.2, a.3, (a.4.0, subst (λ G. IsMultipleOf (determining_equation S rs a.1 a.4.0) G) (sym a.4.2) (multiple_of_primitive (determining_equation S rs a.1 a.4.0)))))
        h.alone);
  }

  -- ---- there is one list of them
  listed : (es fs : List LinearForm) → AreOpeningEquations S rs es → AreOpeningEquations S rs fs → Every (Contains fs) es
  listed es fs h k = every_of (IsNormalisedEquation S rs) (Contains fs) es (λ e a. at e a) h.alone
    where
      at : (e : LinearForm) → IsNormalisedEquation S rs e → Contains fs e
      at e a =
          elim (subst (λ r. (determining_equation S rs r a.4.0 ≡ no_form) ⊎ Contains fs (primitive (determining_equation S rs r a.4.0))) a.3 (k.all a.0 a.1 a.2 a.4.0)) [
            | inl z ↦ absurd (a.4.1 z)
            | inr c ↦ subst (Contains fs) (sym a.4.2) c
          ]

  pub one_opening : (es fs : List LinearForm) → AreOpeningEquations S rs es → AreOpeningEquations S rs fs → es ≡ fs
  one_opening es fs h k = same_elements equation_cmp equation_cmp_total es fs h.ordered k.ordered (listed es fs h k) (listed fs es k h)

  pub one_opening_system : (T U : LinearSystem) → IsOpeningSystem S rs T → IsOpeningSystem S rs U → T ≡ U
  one_opening_system T U h k = subst (λ V. V ≡ U) (sym h.2) (subst (λ V. determining_system S h.0 ≡ V) (sym k.2) (subst (λ es. determining_system S h.0 ≡ determining_system S es) (one_opening h.0 k.0 h.1 k.1) refl))

  pub few_in_opening : (T U : LinearSystem) → IsOpeningSystem S rs T → system_triple_count T ≤ 1000000 → IsOpeningSystem S rs U → system_triple_count U ≤ 1000000
  few_in_opening T U h few k = subst (λ V. system_triple_count V ≤ 1000000) (one_opening_system T U h k) few

  -- ---- a field is invariant exactly if the opening system gives it
  pub opening_says : IsSpace S → IsSolved rs → HaveHighLeads S rs → (T : LinearSystem) → IsOpeningSystem S rs T → (V : VectorField) → IsFieldOn S V → IsInvariant S rs V ↔ Gives T V
  opening_says space solved high T h V on =
      subst (λ U. IsInvariant S rs V ↔ Gives U V) (sym h.2) (invariant_is_given S space.0 space.1 rs solved high h.0 (determining_of_opening h.0 h.1) V on)
