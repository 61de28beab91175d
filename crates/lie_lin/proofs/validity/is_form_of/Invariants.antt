use Rattle.std.proofs.Common.{take}
use Rattle.std.specs.List.{AllByRecursion as Every}
use Rattle.std.specs.Prelude.{map, ltb}
use Rattle.lie_math.specs.Counts.{Derivative}
use Rattle.lie_math.specs.Polynomial.{WholePolynomial}
use Rattle.lie_math.specs.Variables.{IsIn}
use Rattle.lie_systems.specs.ValidSystems.{IsOwned}
use Rattle.lie_lin.specs.Forms.{coefficients_of}
use Rattle.lie_lin.specs.Systems.{unknown_of}
use Rattle.lie_lin.proofs.validity.is_form_of.Given as goal

abbrev pub invariant-loop-term : goal.invariant-loop-term
invariant-loop-term l = Every (λ (e : Derivative × WholePolynomial). IsOwned (map unknown_of l.unknowns) e.0 × IsIn (λ v. ltb v l.bound) e.1) (coefficients_of (take l.term-index l.term-items))
