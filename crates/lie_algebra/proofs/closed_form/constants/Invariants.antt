use Rattle.std.specs.Prelude.{◌≡◌, [], map}
use Rattle.std.specs.List.{range_with_len}
use Rattle.lie_lin.specs.Systems.{unknown_of}
use Rattle.lie_algebra.proofs.closed_form.constants.Given as goal

abbrev pub invariant-loop-i : goal.invariant-loop-i
invariant-loop-i l = map unknown_of l.list.items ≡ map (λ i. record { number = i; variables = [] }) (range_with_len 1 l.i)
