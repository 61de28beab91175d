use Rattle.std.proofs.Common.{length}
use Rattle.lie_poly.proofs.packed.+multiply.Given as goal

abbrev pub decreases-multiply : goal.decreases-multiply
decreases-multiply g l = length l.left.now
