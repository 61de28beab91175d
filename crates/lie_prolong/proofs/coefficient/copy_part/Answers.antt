use Rattle.lie_prolong.proofs.coefficient.copy_part.Goals as goal
use Rattle.lie_jet.proofs.Absolutes.{within_absolute}

pub returns-clause-fits : goal.returns-clause-fits
returns-clause-fits c = within_absolute c.args.part.now c.is_within_limits.ensures
