use Rattle.lie_math.proofs.Cancellation.{factor_cancel}
use Rattle.lie_math.proofs.polynomials.factors_cancel.Goals as goal

pub returns : goal.returns
returns c = factor_cancel
