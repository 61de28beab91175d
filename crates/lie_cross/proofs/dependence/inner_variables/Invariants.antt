use Rattle.std.proofs.Common.{◌≡◌, ◌<◌, ℕ, false, get_or, length, map}
use Rattle.std.specs.List.{list_any}
use Rattle.lie_math.specs.Counts.{Derivative}
use Rattle.lie_math.specs.Polynomial.{WholePolynomial}
use Rattle.lie_lin.specs.Systems.{unknown_of}
use Rattle.lie_steps.specs.Equations.{depends}
use Rattle.lie_cross.proofs.dependence.inner_variables.Given as goal

abbrev pub invariant-loop-var : goal.invariant-loop-var
invariant-loop-var l = record {
  places : length l.inside ≡ 8;
  same : (v : ℕ) → v < l.var → get_or l.inside v false ≡ list_any
      (λ (e : Derivative × WholePolynomial). depends (map unknown_of l.unknowns) (e.0).unknown v) l.form.list;
}
