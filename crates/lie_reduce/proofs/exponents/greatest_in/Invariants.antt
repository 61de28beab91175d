use Rattle.std.proofs.Common.{◌≡◌, take}
use Rattle.lie_math.specs.Natural.{maxima}
use Rattle.lie_math.specs.Monomial.{exponent}
use Rattle.lie_math.specs.SortedSum.{sum_of_entries}
use Rattle.lie_reduce.proofs.exponents.greatest_in.Given as goal

abbrev pub invariant-loop-term : goal.invariant-loop-term
invariant-loop-term l = l.greatest ≡ sum_of_entries maxima (λ m a. exponent m l.number) (take l.term-index l.terms)
