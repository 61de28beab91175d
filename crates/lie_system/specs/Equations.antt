-- Equations as they are kept.
use Rattle.std.specs.Prelude.{◌≤◌, ltb, List, length, take, option_map, IfSome}
use Rattle.std.specs.List.{AllByRecursion as Every}
use Rattle.lie_math.specs.Counts.{order}
use Rattle.lie_math.specs.Variables.{IsIn}
use Rattle.lie_geometry.specs.Coordinates.{Space, coordinates_up_to}
use Rattle.lie_jet.specs.Jets.{coordinate_of, IsJet}
use Rattle.lie_jet.specs.declared.jet.Jet.{Jet}
use Rattle.lie_system.specs.declared.equation.Equation.{Equation}
use Rattle.lie_jet.specs.Limits.{greatest_written_order, greatest_jet_order}
use Rattle.lie_system.specs.Limits.{greatest_equation_count}
use Rattle.lie_system.specs.Systems.{EquationRead}

abbrev pub equation_read : Space → Equation → EquationRead
equation_read S e = record { lead = option_map (coordinate_of S) e.lead; diff = e.diff }

-- a derivative of an order from 1 to the greatest that is written
pub record IsLowJet (S : Space) (j : Jet) : Type 0 where
  pub jet : IsJet S greatest_written_order j
  pub some : 1 ≤ order (take S.p j.counts)

-- the lead, if there is one, is a jet of the space
abbrev pub HasJet : Space → Equation → Type 0
HasJet S e = IfSome e.lead (IsJet S greatest_jet_order)

-- an equation in coordinates of written orders
pub record IsKept (S : Space) (e : Equation) : Type 0 where
  pub lead : IfSome e.lead (IsLowJet S)
  pub diff : IsIn (λ w. ltb w (coordinates_up_to S greatest_written_order)) e.diff

-- not too many of them
pub record AreKept (S : Space) (es : List Equation) : Type 0 where
  pub few : length es ≤ greatest_equation_count
  pub equations : Every (IsKept S) es
