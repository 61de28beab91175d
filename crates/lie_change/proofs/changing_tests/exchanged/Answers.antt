use Rattle.std.proofs.Common.{◌+◌, ◌<◌, ◌∷◌, [], ◌∙◌, ap, map, length, arith}
use Rattle.std.specs.List.{Contains}
use Rattle.lie_math.specs.LinearForm.{LinearForm}
use Rattle.lie_systems.specs.Normalised.{primitive}
use Rattle.lie_lin.specs.Systems.{SpaceSystem}
use Rattle.lie_lin.proofs.OpeningSystem.{for_worked}
use Rattle.lie_steps.specs.Equations.{equation, with_equations_at}
use Rattle.lie_change.specs.Ends.{StaysValid}
use Rattle.lie_change.proofs.ChangedFields.{exchanged_valid, other_equation}
use Rattle.lie_change.proofs.changing_tests.exchanged.Goals as goal

pub exchange_forms-requires-clause-place : goal.exchange_forms-requires-clause-place
exchange_forms-requires-clause-place c = for_worked (λ (s : SpaceSystem). 0 < length s.system.equations) c.in_ok-system.system
    c.in_ok-system.ensures.space c.in_ok-system.ensures.system (omega arith)

pub exchange_forms-requires-clause-apart : goal.exchange_forms-requires-clause-apart
exchange_forms-requires-clause-apart c =
    for_worked (λ (s : SpaceSystem). ¬ (Contains (map primitive c.from_ref.result.now)
    (equation s.system 0))) c.in_ok-system.system c.in_ok-system.ensures.space c.in_ok-system.ensures.system
    (other_equation c.from_ref.result.now (c.from_ref.ensures.value ∙ ap (λ (E : LinearForm). E ∷ []) c.in_ok-form.ensures))

pub exchange_forms-requires-clause-valid : goal.exchange_forms-requires-clause-valid
exchange_forms-requires-clause-valid c =
    for_worked (λ (s : SpaceSystem). StaysValid (s.space.p + s.space.q)
    (with_equations_at s.system 0 c.from_ref.result.now)) c.in_ok-system.system c.in_ok-system.ensures.space
    c.in_ok-system.ensures.system
    (exchanged_valid c.from_ref.result.now (c.from_ref.ensures.value ∙ ap (λ (E : LinearForm). E ∷ []) c.in_ok-form.ensures))
