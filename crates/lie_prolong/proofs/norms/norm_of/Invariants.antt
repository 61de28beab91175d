use Rattle.std.specs.Prelude.{◌≡◌, suc, min, take, unsigned_abs}
use Rattle.lie_math.specs.Limits.{greatest_term_count}
use Rattle.lie_math.specs.Natural.{naturals}
use Rattle.lie_math.specs.SortedSum.{sum_of_entries}
use Rattle.lie_prolong.proofs.norms.norm_of.Given as goal

abbrev pub invariant-loop-term : goal.invariant-loop-term
invariant-loop-term l = l.norm ≡ min (sum_of_entries naturals (λ m a. unsigned_abs a) (take l.term-index l.terms)) (suc greatest_term_count)
