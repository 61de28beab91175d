use Rattle.std.proofs.Common.{◌≡◌, ◌+◌, drop}
use Rattle.lie_math.specs.Natural.{naturals}
use Rattle.lie_math.specs.SortedSum.{sum_of_entries}
use Rattle.lie_poly.proofs.words.degree_of.Given as goal

abbrev pub invariant-loop-exponent : goal.invariant-loop-exponent
invariant-loop-exponent l = l.total + sum_of_entries naturals (λ v e. e) (drop l.exponent-index l.pairs) ≡ sum_of_entries naturals (λ v e. e) l.pairs
