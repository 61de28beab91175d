-- Forms solved for a derivative, as they are kept.
use Rattle.std.specs.Prelude.{◌≡◌, ℕ, ◌≤◌, List, ℤ, pos}
use Rattle.std.specs.List.{AllByRecursion as Every}
use Rattle.lie_math.specs.LinearForm.{LinearForm}
use Rattle.lie_math.specs.LinearSystem.{Unknown, LinearSystem}
use Rattle.lie_math.specs.Polynomial.{WholePolynomial, constant}
use Rattle.lie_systems.specs.ValidSystems.{IsFormOf, HasVariablesBelow}
use Rattle.lie_jet.specs.Derivatives.{derivative_of}
use Rattle.lie_steps.specs.Equations.{equation, rest_of}
use Rattle.lie_steps.specs.Substitute.{IsSolvedFor, IsSubstitutedAt}
use Rattle.lie_rules.specs.declared.solved.Solved.{Solved}

-- a form in the unknowns and in at most 8 variables
pub record IsFormIn (unknowns : List Unknown) (E : LinearForm) : Type 0 where
  pub variable_count : ℕ
  pub few : variable_count ≤ 8
  pub variables : Every (HasVariablesBelow variable_count) unknowns
  pub form : IsFormOf variable_count unknowns E

-- p is a number that is not 0
abbrev pub IsNumber : ℤ → WholePolynomial → Type 0
IsNumber c p = (¬ (c ≡ pos 0)) × (p ≡ constant c)

-- E is solved for the derivative, with this number and this rest
pub record IsSolved (unknowns : List Unknown) (E : LinearForm) (s : Solved) : Type 0 where
  pub solved : IsSolvedFor unknowns E (derivative_of s.der) s.number
  pub rest : s.rest ≡ rest_of (derivative_of s.der) E

-- the equation at a place is solved for the greatest unknown
abbrev pub IsSubstitution : LinearSystem → ℕ → Solved → Type 0
IsSubstitution S i s = IsSubstitutedAt S i (derivative_of s.der) s.number × (s.rest ≡ rest_of (derivative_of s.der) (equation S i))
