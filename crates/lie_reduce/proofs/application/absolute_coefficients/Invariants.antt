use Rattle.std.specs.Prelude.{◌≡◌, take}
use Rattle.lie_reduce.specs.Applications.{absolute_coefficients}
use Rattle.lie_reduce.proofs.application.absolute_coefficients.Given as goal

abbrev pub invariant-loop-coefficient : goal.invariant-loop-coefficient
invariant-loop-coefficient l = l.made.items ≡ absolute_coefficients (take l.coefficient-index l.coefficients)
