use Rattle.lie_math.proofs.LinearForm.{apply_unknown}
use Rattle.lie_math.proofs.forms.unknown_says_function.Goals as goal

pub returns : goal.returns
returns c = apply_unknown
