use Rattle.std.specs.Prelude.{◌≡◌, suc, min, take}
use Rattle.lie_math.specs.Limits.{greatest_exponent}
use Rattle.lie_math.specs.Natural.{naturals}
use Rattle.lie_math.specs.SortedSum.{sum_of_entries}
use Rattle.lie_prolong.proofs.norms.degree_in.Given as goal

abbrev pub invariant-loop-pair : goal.invariant-loop-pair
invariant-loop-pair l = l.degree ≡ min (sum_of_entries naturals (λ v e. e) (take l.pair-index l.pairs)) (suc greatest_exponent)
