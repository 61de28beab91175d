use Rattle.lie_math.proofs.Cancellation.{constant_cancel}
use Rattle.lie_math.proofs.polynomials.numbers_cancel.Goals as goal

pub returns : goal.returns
returns c = constant_cancel
