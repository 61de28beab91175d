use Rattle.std.specs.Prelude.{◌≡◌, ◌≤◌, drop, pos}
use Rattle.lie_math.specs.Counts.{partials_from}
use Rattle.lie_math.specs.Polynomial.{term}
use Rattle.lie_degree.specs.SmallTerms.{IsSmall}
use Rattle.lie_degree.proofs.derivatives.derived_monomial.Given as goal

abbrev pub invariant-loop-var : goal.invariant-loop-var
invariant-loop-var l = record {
  within : l.var ≤ 8;
  small : IsSmall l.made;
  derived : l.made ≡ partials_from l.var (drop l.var l.counts) (term l.mono (pos 1));
}

abbrev pub decreases-loop-var : goal.decreases-loop-var
decreases-loop-var l = l.var
