-- What the making of a solved form says of the terms of equations.
use Rattle.std.specs.Prelude.{◌≡◌, ℕ, ◌+◌, ◌&&◌, Bool, true, false, cond, ltb, leb, eqb, List, [], ◌∷◌, ◌++◌}
use Rattle.std.specs.Prelude.{ℤ, pos, negsuc, neg_ℤ, Option, Some, None}
use Rattle.std.specs.List.{AllByRecursion as Every, list_any}
use Rattle.std.specs.Ordering.{is_gt}
use Rattle.lie_math.specs.Monomial.{Monomial, exponent, single}
use Rattle.lie_math.specs.Polynomial.{WholePolynomial, coefficient}
use Rattle.lie_geometry.specs.Coordinates.{Space, number, coordinate}
use Rattle.lie_geometry.specs.SolvedEquations.{is_lead}
use Rattle.lie_ring.specs.Rankings.{degree_rank}
use Rattle.lie_jet.specs.Jets.{coordinate_of, IsJet}
use Rattle.lie_jet.specs.declared.jet.Jet.{Jet}
use Rattle.lie_jet.specs.Limits.{greatest_written_order, greatest_jet_order}
use Rattle.lie_system.specs.Systems.{EquationRead}
use Rattle.lie_solved.specs.declared.solved.LeadRule.{LeadRule}
use Rattle.lie_solved.specs.Leads.{ranked, IsDerivative, HasNoDerivative, IsLead, IsLinearIn}
use Rattle.lie_solved.specs.SolvedForms.{solved_equation, solved_equations, IsSolvedBy}
use Rattle.lie_solved.specs.declared.solved.SolveFormFail.{SolveFormFail}
use Rattle.lie_solved.specs.Refusals.{ArePassed, IsReached, IsSolveFormCause}

-- ---- the variables of terms
abbrev pub variables_in : List (ℕ × ℕ) → List ℕ
variables_in [] = []
variables_in (p ∷ ps) = p.0 ∷ variables_in ps

abbrev pub variables_of : List (Monomial × ℤ) → List ℕ
variables_of [] = []
variables_of (t ∷ ts) = variables_in (t.0).list ++ variables_of ts

-- a derivative that is greater than j
abbrev pub is_greater : Space → Jet → ℕ → Bool
is_greater S j w = leb (S.p + S.q) w && is_gt (degree_rank (ranked (coordinate S w)) (ranked (coordinate_of S j)))

-- j is the greatest derivative among coordinates
pub record IsGreatestOf (S : Space) (ws : List ℕ) (j : Jet) : Type 0 where
  pub jet : IsJet S greatest_jet_order j
  pub derivative : IsDerivative S (number S (coordinate_of S j))
  pub occurs : list_any (λ w. eqb w (number S (coordinate_of S j))) ws ≡ true
  pub greatest : Every (λ w. is_greater S j w ≡ false) ws

abbrev pub IsBest : Space → List ℕ → Option Jet → Type 0
IsBest S ws None = Every (λ w. ltb w (S.p + S.q) ≡ true) ws
IsBest S ws (Some j) = IsGreatestOf S ws j

-- the equation has a derivative, and j is its lead
pub record HasLead (S : Space) (e : EquationRead) (j : Jet) : Type 0 where
  pub some : ¬ (HasNoDerivative S e.diff)
  pub jet : IsJet S greatest_written_order j
  pub derivative : IsDerivative S (number S (coordinate_of S j))
  pub lead : IsLead S e (number S (coordinate_of S j))

-- ---- terms without a variable
-- a number or its negative
abbrev pub turned : Bool → ℤ → ℤ
turned negative z = cond negative (neg_ℤ z) z

-- the terms without the variable w, with their numbers turned
abbrev pub rest_of : ℕ → Bool → List (Monomial × ℤ) → List (Monomial × ℤ)
rest_of w negative [] = []
rest_of w negative (t ∷ ts) = cond (eqb (exponent t.0 w) 0) ((t.0, turned negative t.1) ∷ rest_of w negative ts) (rest_of w negative ts)

-- the polynomial is c times w and terms without w
pub record IsLinearWith (w : ℕ) (P : WholePolynomial) (c : ℤ) : Type 0 where
  pub linear : IsLinearIn w P
  pub coefficient : coefficient P (single w) ≡ c

-- it is not negative
abbrev pub is_plain : ℤ → Bool
is_plain (pos n) = true
is_plain (negsuc n) = false

-- ---- rules
-- the rule solves the equation, and its lead is a jet of a written order
pub record IsRule (S : Space) (e : EquationRead) (r : LeadRule) : Type 0 where
  pub solves : IsSolvedBy S e (solved_equation S r)
  pub jet : IsJet S greatest_written_order r.lead

abbrev pub HaveJets : Space → List LeadRule → Type 0
HaveJets S rs = Every (λ (r : LeadRule). IsJet S greatest_written_order r.lead) rs

-- the rules solve the equations one by one, with distinct leads
pub record AreRules (S : Space) (es : List EquationRead) (rs : List LeadRule) : Type 0 where
  pub passed : ArePassed S es (solved_equations S rs)
  pub jets : HaveJets S rs

-- the rule solves the equation behind others, and none of these has its lead
abbrev pub IsNextRule : Space → List LeadRule → EquationRead → LeadRule → Type 0
IsNextRule S rs e r = IsRule S e r × (is_lead (solved_equations S rs) (solved_equation S r).lead ≡ false)

-- a system is refused so where the equation e is reached as the k-th one
abbrev pub IsRefusalAt : Space → List LeadRule → EquationRead → ℕ → SolveFormFail → Type 0
IsRefusalAt S rs e k fail = (es : List EquationRead) → IsReached S es k (solved_equations S rs) e → IsSolveFormCause S es fail
