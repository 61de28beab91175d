use Rattle.std.specs.Prelude.{◌≡◌, ◌++◌, drop}
use Rattle.lie_degree.specs.Columns.{with_variable}
use Rattle.lie_degree.proofs.monomials.with_variable.Given as goal

abbrev pub invariant-loop-mono : goal.invariant-loop-mono
invariant-loop-mono l = l.made.items ++ with_variable l.var l.highest (drop l.mono-index l.monos) ≡ with_variable l.var l.highest l.monos
