use Rattle.std.specs.Prelude.{◌≡◌, ◌-◌}
use Rattle.std.specs.Fn.{iterate}
use Rattle.lie_math.specs.PartialDerivative.{partial}
use Rattle.lie_degree.specs.SmallTerms.{IsSmall}
use Rattle.lie_degree.proofs.derivatives.derived_often.Given as goal

abbrev pub invariant-loop : goal.invariant-loop
invariant-loop l = record {
  small : IsSmall l.made;
  left : iterate (partial l.var) (l.times - l.counter) l.made ≡ iterate (partial l.var) l.times l.fn.small;
}
