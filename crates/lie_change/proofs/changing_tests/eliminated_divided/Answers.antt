use Rattle.std.proofs.Common.{◌≡◌, ◌+◌, ◌<◌, ◌^◌, [], true, length, unsigned_abs, arith}
use Rattle.lie_lin.specs.Systems.{SpaceSystem}
use Rattle.lie_lin.proofs.OpeningSystem.{for_worked}
use Rattle.lie_steps.specs.Equations.{equation, mentions}
use Rattle.lie_steps.specs.Replacement.{eliminated_divided}
use Rattle.lie_change.specs.Ends.{StaysValid}
use Rattle.lie_change.proofs.ChangedFields.{own_equation, free_of_none, divided_valid, positive_number}
use Rattle.lie_change.proofs.changing_tests.eliminated_divided.Goals as goal

pub eliminate_divided-requires-clause-place : goal.eliminate_divided-requires-clause-place
eliminate_divided-requires-clause-place c = for_worked (λ (s : SpaceSystem). 0 < length s.system.equations) c.in_ok-system.system
    c.in_ok-system.ensures.space c.in_ok-system.ensures.system (omega arith)

pub eliminate_divided-requires-clause-own : goal.eliminate_divided-requires-clause-own
eliminate_divided-requires-clause-own c = for_worked (λ (s : SpaceSystem). mentions 1
    (equation s.system 0) ≡ true) c.in_ok-system.system c.in_ok-system.ensures.space c.in_ok-system.ensures.system own_equation

pub eliminate_divided-requires-clause-free : goal.eliminate_divided-requires-clause-free
eliminate_divided-requires-clause-free c = free_of_none c.empty_form.result c.empty_form.ensures

pub eliminate_divided-requires-clause-numbers : goal.eliminate_divided-requires-clause-numbers
eliminate_divided-requires-clause-numbers c = for_worked (λ (s : SpaceSystem). s.system.next + 0 < 2 ^ 32) c.in_ok-system.system
    c.in_ok-system.ensures.space c.in_ok-system.ensures.system (omega arith)

pub eliminate_divided-requires-clause-valid : goal.eliminate_divided-requires-clause-valid
eliminate_divided-requires-clause-valid c =
    for_worked (λ (s : SpaceSystem). StaysValid (s.space.p + s.space.q)
    (eliminated_divided s.system 0 1 c.empty_form.result (unsigned_abs c.six.result) [])) c.in_ok-system.system c.in_ok-system.ensures.space
    c.in_ok-system.ensures.system
    (divided_valid c.empty_form.result c.empty_form.ensures (unsigned_abs c.six.result)
    (positive_number c.six.result c.six.ensures))
