use Rattle.std.specs.Prelude.{◌≡◌, suc, take, max}
use Rattle.lie_math.specs.Natural.{maxima}
use Rattle.lie_math.specs.SortedSum.{sum_of_entries}
use Rattle.lie_reduce.proofs.order.greatest_variable.Given as goal

abbrev pub invariant-loop-term : goal.invariant-loop-term
invariant-loop-term l = suc l.greatest ≡ max (suc l.fn.number) (sum_of_entries maxima (λ m a. sum_of_entries maxima (λ w e. suc w) m.list) (take l.term-index l.terms))
