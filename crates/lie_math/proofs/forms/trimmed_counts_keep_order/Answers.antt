use Rattle.lie_math.proofs.Counts.{derivative_cmp-trimmed}
use Rattle.lie_math.proofs.forms.trimmed_counts_keep_order.Goals as goal

pub returns : goal.returns
returns c = derivative_cmp-trimmed
