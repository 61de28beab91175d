use Rattle.lie_symbolic.proofs.SymbolicWithin.{coefficients_within}
use Rattle.lie_symbolic.proofs.symbolic.coefficients_are_within_limits.Goals as goal

pub returns : goal.returns
returns c = coefficients_within c.args.space c.space_is_small.ensures
