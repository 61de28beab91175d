use Rattle.std.specs.Prelude.{◌≡◌, ◌+◌, ◌*◌, ◌^◌, ◌≤◌, drop}
use Rattle.lie_math.specs.Natural.{naturals}
use Rattle.lie_math.specs.SortedSum.{sum_of_entries}
use Rattle.lie_algebra.proofs.column.sum_of_exponents.Given as goal

abbrev pub invariant-loop-exponent : goal.invariant-loop-exponent
invariant-loop-exponent l = record {
  sum : l.total + sum_of_entries naturals (λ v e. e) (drop l.exponent-index l.pairs) ≡ sum_of_entries naturals (λ v e. e) l.pairs;
  bound : l.total ≤ l.exponent-index * 2 ^ 32;
}
