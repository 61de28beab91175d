use Rattle.std.proofs.Common.{◌+◌}
use Rattle.lie_lin.specs.Systems.{SpaceSystem}
use Rattle.lie_lin.proofs.OpeningSystem.{for_worked}
use Rattle.lie_steps.specs.Equations.{with_equation}
use Rattle.lie_change.specs.Ends.{StaysValid}
use Rattle.lie_change.proofs.ChangedFields.{added_valid}
use Rattle.lie_change.proofs.changing_tests.added.Goals as goal

pub add_form-requires-clause-valid : goal.add_form-requires-clause-valid
add_form-requires-clause-valid c =
    for_worked (λ (s : SpaceSystem). StaysValid (s.space.p + s.space.q)
    (with_equation s.system c.in_ok-form.form)) c.in_ok-system.system c.in_ok-system.ensures.space c.in_ok-system.ensures.system
    (added_valid c.in_ok-form.form c.in_ok-form.ensures)
