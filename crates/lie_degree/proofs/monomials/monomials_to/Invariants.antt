use Rattle.std.specs.Prelude.{◌≡◌}
use Rattle.lie_degree.specs.Columns.{monomials_to}
use Rattle.lie_degree.proofs.monomials.monomials_to.Given as goal

abbrev pub invariant-loop-var : goal.invariant-loop-var
invariant-loop-var l = l.monos.items ≡ monomials_to l.var l.highest
