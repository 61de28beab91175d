use Rattle.std.proofs.Common.{◌≡◌, false, map, take}
use Rattle.std.specs.List.{AllByRecursion as Every}
use Rattle.lie_math.specs.Polynomial.{WholePolynomial}
use Rattle.lie_jet.specs.declared.derivative.Der.{Der}
use Rattle.lie_lin.specs.Systems.{unknown_of}
use Rattle.lie_steps.specs.Equations.{depends}
use Rattle.lie_rules.proofs.split.is_independent.Given as goal

abbrev pub invariant-loop-term : goal.invariant-loop-term
invariant-loop-term l =
    Every (λ (t : Der × WholePolynomial). depends (map unknown_of l.unknowns) (t.0).unknown l.var ≡ false) (take l.term-index l.term-items)
