-- The solved form of a system: each equation with its lead on one side.
use Rattle.std.specs.Prelude.{◌≡◌, ℕ, suc, ◌⊎◌, List, [], ◌∷◌, map, AllPairs, pos}
use Rattle.lie_math.specs.Polynomial.{negᴾ}
use Rattle.lie_math.specs.Variables.{FreeOf}
use Rattle.lie_geometry.specs.Coordinates.{Space, number}
use Rattle.lie_geometry.specs.SolvedEquations.{SolvedEquation, difference, IsSolved}
use Rattle.lie_ring.specs.Rankings.{degree_rank}
use Rattle.lie_jet.specs.Jets.{coordinate_of}
use Rattle.lie_system.specs.Systems.{EquationRead}
use Rattle.lie_solved.specs.declared.solved.LeadRule.{LeadRule}
use Rattle.lie_solved.specs.Leads.{JetOrder, IsDerivative, IsLeadUnder}

-- the equation of a rule
abbrev pub solved_equation : Space → LeadRule → SolvedEquation
solved_equation S r = record { lead = number S (coordinate_of S r.lead); factor = r.c; right = r.right }

abbrev pub solved_equations : Space → List LeadRule → List SolvedEquation
solved_equations S rules = map (solved_equation S) rules

-- ---- under any order of derivatives
-- a positive number times the lead of the equation is a polynomial without it, and the difference of both is that of the equation's sides
-- or its negative
pub record IsSolvedUnder (rank : JetOrder) (S : Space) (e : EquationRead) (r : SolvedEquation) : Type 0 where
  pub lead : IsLeadUnder rank S e r.lead
  pub derivative : IsDerivative S r.lead
  pub positive : (n : ℕ) × (r.factor ≡ pos (suc n))
  pub free : FreeOf r.lead r.right
  pub same : (difference r ≡ e.diff) ⊎ (difference r ≡ negᴾ e.diff)

-- each equation is solved by its own
abbrev pub AreSolvedUnder : JetOrder → Space → List EquationRead → List SolvedEquation → Type 0
AreSolvedUnder rank S [] [] = Unit {0}
AreSolvedUnder rank S [] (r ∷ rs) = ⊥
AreSolvedUnder rank S (e ∷ es) [] = ⊥
AreSolvedUnder rank S (e ∷ es) (r ∷ rs) = IsSolvedUnder rank S e r × AreSolvedUnder rank S es rs

-- no two leads are the same
abbrev pub HaveDistinctLeads : List SolvedEquation → Type 0
HaveDistinctLeads rs = AllPairs (λ r s. ¬ (r.lead ≡ s.lead)) rs

-- each equation is solved, no two leads are the same, and no right side has a lead
pub record IsSolvedFormUnder (rank : JetOrder) (S : Space) (es : List EquationRead) (rs : List SolvedEquation) : Type 0 where
  pub equations : AreSolvedUnder rank S es rs
  pub solved : IsSolved rs

-- ---- by the order of derivatives, then the dependent variable, then the counts
abbrev pub IsSolvedBy : Space → EquationRead → SolvedEquation → Type 0
IsSolvedBy S e r = IsSolvedUnder degree_rank S e r

abbrev pub AreSolvedBy : Space → List EquationRead → List SolvedEquation → Type 0
AreSolvedBy S es rs = AreSolvedUnder degree_rank S es rs

abbrev pub IsSolvedForm : Space → List EquationRead → List SolvedEquation → Type 0
IsSolvedForm S es rs = IsSolvedFormUnder degree_rank S es rs
