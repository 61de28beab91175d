-- Systems with other equations in place of one, or with one equation more: sound, and with the same fields, where the equations say the same.
use Rattle.std.specs.Prelude.{ℕ, List, [], ◌∷◌, remove}
use Rattle.std.proofs.Common.{refl}
use Rattle.std.specs.List.{AllByRecursion as Every}
use Rattle.lie_math.specs.Polynomial.{WholePolynomial}
use Rattle.lie_math.specs.LinearForm.{LinearForm, no_form}
use Rattle.lie_math.specs.LinearSystem.{LinearSystem, IsSolution}
use Rattle.lie_systems.specs.ValidSystems.{IsFormOf}
use Rattle.lie_steps.specs.Equations.{equation, IsPlace, with_equations_at, with_equation}
use Rattle.lie_steps.specs.Laws.{HaveSameFields}
use Rattle.lie_math.proofs.EveryElement.{every-append, every-front, every-back, every_picked, every_put_back}
use Rattle.lie_steps.proofs.Carry.{same_fields, kept}
use Rattle.lie_steps.proofs.Tidied.{IsSound, Solves}
use Rattle.lie_steps.proofs.Unknowns.{IsOwn}

module _ (n : ℕ) (S : LinearSystem) (sound : IsSound n S) where
  pub at-sound : (i : ℕ) → IsPlace S i → (Es : List LinearForm) → Every (IsFormOf n S.unknowns) Es → IsSound n (with_equations_at S i Es)
  at-sound i place Es h = record {
    rising = sound.rising;
    below = sound.below;
    variables = sound.variables;
    equations = every-append (IsFormOf n S.unknowns) (remove S.equations i) Es (every_picked (IsFormOf n S.unknowns) S.equations i no_form place sound.equations).1 h;
    general = sound.general;
    components = sound.components;
  }

  pub added-sound : (E : LinearForm) → IsFormOf n S.unknowns E → IsSound n (with_equation S E)
  added-sound E h = record {
    rising = sound.rising;
    below = sound.below;
    variables = sound.variables;
    equations = every-append (IsFormOf n S.unknowns) S.equations (E ∷ []) sound.equations (h, tt);
    general = sound.general;
    components = sound.components;
  }

module _ (S : LinearSystem) where
  -- where the other equations hold, the equation says the same as the new ones
  pub at-same : (i : ℕ) → IsPlace S i → (Es : List LinearForm) → ((F : ℕ → WholePolynomial) → Every (IsOwn F) S.unknowns → Every (Solves F) (remove S.equations i) → Solves F (equation S i) → Every (Solves F) Es) → ((F : ℕ → WholePolynomial) → Every (IsOwn F) S.unknowns → Every (Solves F) (remove S.equations i) → Every (Solves F) Es → Solves F (equation S i)) → HaveSameFields S (with_equations_at S i Es)
  at-same i place Es f g = same_fields S (with_equations_at S i Es)
      (λ F h. kept S (with_equations_at S i Es) F refl (record {
        own = h.own;
        solves = let p = every_picked (Solves F) S.equations i no_form place h.solves in every-append (Solves F) (remove S.equations i) Es p.1 (f F h.own p.1 p.0);
      }))
      (λ F h. kept (with_equations_at S i Es) S F refl (record {
        own = h.own;
        solves = let l = every-front (Solves F) (remove S.equations i) Es h.solves in every_put_back (Solves F) S.equations i no_form place (g F h.own l (every-back (Solves F) (remove S.equations i) Es h.solves)) l;
      }))

  -- an equation that each solution meets
  pub added-same : (E : LinearForm) → ((F : ℕ → WholePolynomial) → IsSolution F S → Solves F E) → HaveSameFields S (with_equation S E)
  added-same E f = same_fields S (with_equation S E)
      (λ F h. kept S (with_equation S E) F refl (record { own = h.own; solves = every-append (Solves F) S.equations (E ∷ []) h.solves (f F h, tt) }))
      (λ F h. kept (with_equation S E) S F refl (record { own = h.own; solves = every-front (Solves F) S.equations (E ∷ []) h.solves }))
