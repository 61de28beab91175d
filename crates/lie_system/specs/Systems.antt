-- Equations and systems as lists.
use Rattle.std.specs.Prelude.{ℕ, List}
use Rattle.std.specs.declared.option.Option.{Option}
use Rattle.lie_math.specs.Polynomial.{WholePolynomial}
use Rattle.lie_geometry.specs.Coordinates.{Space, Coordinate}

-- an equation: the derivative that is its left side alone, and the left side minus the right side
pub record EquationRead : Type 0 where
  pub lead : Option Coordinate
  pub diff : WholePolynomial

-- a system: its names and its equations
pub record SystemRead : Type 0 where
  pub space : Space
  pub names : List ℕ
  pub equations : List EquationRead
