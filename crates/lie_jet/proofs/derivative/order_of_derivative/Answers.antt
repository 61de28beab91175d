use Rattle.std.proofs.Common.{sym, ◌∙◌}
use Rattle.lie_math.proofs.Counts.{order_trimmed}
use Rattle.lie_jet.proofs.derivative.order_of_derivative.Goals as goal

pub returns : goal.returns
returns c = c.sum_of_counts.ensures ∙ sym (order_trimmed c.args.der.now.counts)
