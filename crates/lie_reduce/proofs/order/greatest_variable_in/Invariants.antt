use Rattle.std.specs.Prelude.{◌≡◌, suc, take, max}
use Rattle.lie_math.specs.Natural.{maxima}
use Rattle.lie_math.specs.SortedSum.{sum_of_entries}
use Rattle.lie_reduce.proofs.order.greatest_variable_in.Given as goal

abbrev pub invariant-loop-pair : goal.invariant-loop-pair
invariant-loop-pair l = suc l.greatest ≡ max (suc l.fn.number) (sum_of_entries maxima (λ w e. suc w) (take l.pair-index l.pairs))
