use Rattle.std.specs.Prelude.{◌≡◌, suc, min, take}
use Rattle.lie_math.specs.Limits.{greatest_exponent}
use Rattle.lie_math.specs.Monomial.{degree}
use Rattle.lie_math.specs.Natural.{maxima}
use Rattle.lie_math.specs.SortedSum.{sum_of_entries}
use Rattle.lie_prolong.proofs.norms.degree_of.Given as goal

abbrev pub invariant-loop-term : goal.invariant-loop-term
invariant-loop-term l = l.greatest ≡ min (sum_of_entries maxima (λ m a. degree m) (take l.term-index l.terms)) (suc greatest_exponent)
