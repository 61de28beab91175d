use Rattle.lie_math.proofs.LinearForm.{apply_plus}
use Rattle.lie_math.proofs.forms.sum_says_sum.Goals as goal

pub returns : goal.returns
returns c = apply_plus
