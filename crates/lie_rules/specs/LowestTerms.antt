-- The terms of an equation in which the lowest derivative is looked for.
use Rattle.std.specs.Prelude.{◌≡◌, ℤ}
use Rattle.std.specs.List.{AllByRecursion as Every}
use Rattle.lie_math.specs.Counts.{Derivative}
use Rattle.lie_math.specs.Monomial.{Monomial, unit}
use Rattle.lie_math.specs.Polynomial.{WholePolynomial}
use Rattle.lie_jet.specs.Derivatives.{derivative_of}
use Rattle.lie_jet.specs.declared.derivative.Der.{Der}
use Rattle.lie_steps.specs.Equations.{Divides}

abbrev pub IsConstant : WholePolynomial → Type 0
IsConstant p = Every (λ (x : Monomial × ℤ). x.0 ≡ unit) p.list

-- d divides the derivative of the term, whose coefficient is a number
abbrev pub IsConstantOver : Derivative → Der × WholePolynomial → Type 0
IsConstantOver d t = Divides d (derivative_of t.0) × IsConstant t.1
