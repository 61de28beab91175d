use Rattle.lie_math.proofs.LinearForm.{apply_derive}
use Rattle.lie_math.proofs.forms.derivative_says_derivative.Goals as goal

pub returns : goal.returns
returns c = apply_derive
