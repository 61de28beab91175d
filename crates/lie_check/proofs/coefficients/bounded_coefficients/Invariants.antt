use Rattle.std.specs.Prelude.{◌≡◌, ◌+◌}
use Rattle.lie_math.specs.VectorField.{component}
use Rattle.lie_check.specs.Coefficients.{coefficients_among}
use Rattle.lie_check.proofs.coefficients.bounded_coefficients.Given as goal

abbrev pub invariant-loop-jet : goal.invariant-loop-jet
invariant-loop-jet l = l.made.items ≡ coefficients_among l.space (component l.field) l.numbers (l.space.p + l.jet-index)
