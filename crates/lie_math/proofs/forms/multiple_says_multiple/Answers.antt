use Rattle.lie_math.proofs.LinearForm.{apply_times}
use Rattle.lie_math.proofs.forms.multiple_says_multiple.Goals as goal

pub returns : goal.returns
returns c = apply_times
