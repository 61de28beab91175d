-- What the rules of a solved system are for the work on it.
use Rattle.std.specs.Prelude.{◌≡◌, ◌≤◌, List, length, ℤ, pos, unsigned_abs}
use Rattle.std.specs.List.{AllByRecursion as Every}
use Rattle.lie_math.specs.Derivation.{is_below}
use Rattle.lie_math.specs.Variables.{IsIn}
use Rattle.lie_geometry.specs.Coordinates.{Space, coordinates_up_to}
use Rattle.lie_geometry.specs.SolvedEquations.{IsSolved, HaveHighLeads}
use Rattle.lie_jet.specs.Limits.{greatest_written_order}
use Rattle.lie_system.specs.Limits.{greatest_equation_count}
use Rattle.lie_solved.specs.declared.solved.LeadRule.{LeadRule}
use Rattle.lie_solved.specs.Equations.{HaveJets}
use Rattle.lie_solved.specs.SolvedForms.{solved_equations}

-- a number greater than 0
abbrev pub IsPositiveNumber : ℤ → Type 0
IsPositiveNumber z = (z ≡ pos (unsigned_abs z)) × (1 ≤ unsigned_abs z)

-- rules in solved form, as many as equations may be: each lead is a derivative of a written order, its factor is positive, and the right
-- side has coordinates of written orders
pub record AreSolvedRules (S : Space) (rs : List LeadRule) : Type 0 where
  pub few : length rs ≤ greatest_equation_count
  pub solved : IsSolved (solved_equations S rs)
  pub jets : HaveJets S rs
  pub high : HaveHighLeads S (solved_equations S rs)
  pub positive : Every (λ (r : LeadRule). IsPositiveNumber r.c) rs
  pub rights : Every (λ (r : LeadRule). IsIn (is_below (coordinates_up_to S greatest_written_order)) r.right) rs
