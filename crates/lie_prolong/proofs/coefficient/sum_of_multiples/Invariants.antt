use Rattle.std.proofs.Common.{◌≡◌, take}
use Rattle.lie_math.specs.Counts.{raise}
use Rattle.lie_math.specs.Derivation.{sum_of, numbers_below}
use Rattle.lie_math.specs.Polynomial.{◌*ᴾ◌}
use Rattle.lie_math.specs.VectorField.{component}
use Rattle.lie_geometry.specs.Prolongation.{jet_variable, total_derivative}
use Rattle.lie_prolong.proofs.coefficient.sum_of_multiples.Given as goal

abbrev pub invariant-loop-i : goal.invariant-loop-i
invariant-loop-i l = l.sum ≡ sum_of (numbers_below l.i) (λ i. total_derivative l.space l.k (component l.field i) *ᴾ jet_variable l.space l.jet.dep (raise i (take l.space.p l.jet.counts)))
