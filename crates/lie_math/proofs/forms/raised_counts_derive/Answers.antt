use Rattle.lie_math.proofs.Counts.{partials_raise}
use Rattle.lie_math.proofs.forms.raised_counts_derive.Goals as goal

pub returns : goal.returns
returns c = partials_raise
