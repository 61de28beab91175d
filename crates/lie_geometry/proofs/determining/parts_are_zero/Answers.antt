use Rattle.lie_geometry.proofs.Parts.{parts_zero, part_in, zero_parts}
use Rattle.lie_geometry.proofs.determining.parts_are_zero.Goals as goal

pub returns : goal.returns
returns c = λ A P. ((zero_parts A P, parts_zero A P), λ μ. part_in A μ P)
