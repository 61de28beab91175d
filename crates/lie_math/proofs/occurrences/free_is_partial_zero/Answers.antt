use Rattle.lie_math.proofs.Dependence.{partial_of_free, free_of_partial}
use Rattle.lie_math.proofs.occurrences.free_is_partial_zero.Goals as goal

pub returns : goal.returns
returns c = λ v p. (partial_of_free v p, free_of_partial v p)
