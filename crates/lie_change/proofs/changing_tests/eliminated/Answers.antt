use Rattle.std.proofs.Common.{◌≡◌, ◌+◌, ◌<◌, ◌^◌, [], true, length, unsigned_abs, arith}
use Rattle.lie_lin.specs.Systems.{SpaceSystem}
use Rattle.lie_lin.proofs.OpeningSystem.{for_worked}
use Rattle.lie_steps.specs.Equations.{equation, mentions}
use Rattle.lie_steps.specs.Replacement.{eliminated}
use Rattle.lie_change.specs.Ends.{StaysValid}
use Rattle.lie_change.proofs.ChangedFields.{own_equation, free_of_none, eliminated_valid, positive_number}
use Rattle.lie_change.proofs.changing_tests.eliminated.Goals as goal

pub eliminate-requires-clause-place : goal.eliminate-requires-clause-place
eliminate-requires-clause-place c = for_worked (λ (s : SpaceSystem). 0 < length s.system.equations) c.in_ok-system.system
    c.in_ok-system.ensures.space c.in_ok-system.ensures.system (omega arith)

pub eliminate-requires-clause-own : goal.eliminate-requires-clause-own
eliminate-requires-clause-own c = for_worked (λ (s : SpaceSystem). mentions 1
    (equation s.system 0) ≡ true) c.in_ok-system.system c.in_ok-system.ensures.space c.in_ok-system.ensures.system own_equation

pub eliminate-requires-clause-free : goal.eliminate-requires-clause-free
eliminate-requires-clause-free c = free_of_none c.empty_form.result c.empty_form.ensures

pub eliminate-requires-clause-numbers : goal.eliminate-requires-clause-numbers
eliminate-requires-clause-numbers c = for_worked (λ (s : SpaceSystem). s.system.next + 0 < 2 ^ 32) c.in_ok-system.system
    c.in_ok-system.ensures.space c.in_ok-system.ensures.system (omega arith)

pub eliminate-requires-clause-valid : goal.eliminate-requires-clause-valid
eliminate-requires-clause-valid c =
    for_worked (λ (s : SpaceSystem). StaysValid (s.space.p + s.space.q)
    (eliminated s.system 0 1 c.empty_form.result (unsigned_abs c.six.result) [])) c.in_ok-system.system c.in_ok-system.ensures.space
    c.in_ok-system.ensures.system
    (eliminated_valid c.empty_form.result c.empty_form.ensures (unsigned_abs c.six.result)
    (positive_number c.six.result c.six.ensures))
