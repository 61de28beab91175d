use Rattle.std.specs.Prelude.{◌≡◌}
use Rattle.lie_math.specs.VectorField.{component}
use Rattle.lie_check.specs.Coefficients.{coefficients_among}
use Rattle.lie_check.proofs.coefficients.first_coefficients.Given as goal

abbrev pub invariant-loop-i : goal.invariant-loop-i
invariant-loop-i l = l.made.items ≡ coefficients_among l.fn.space (component l.field) l.numbers l.i
