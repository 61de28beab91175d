use Rattle.lie_math.proofs.Variables.{in_kept, kept_in}
use Rattle.lie_math.proofs.occurrences.in_is_kept.Goals as goal

pub returns : goal.returns
returns c = λ S p. (in_kept S p, kept_in S p)
