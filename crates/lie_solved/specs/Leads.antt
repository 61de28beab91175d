-- The lead of an equation: the derivative that is its left side alone, and else the greatest one that occurs.
use Rattle.std.specs.Prelude.{◌≡◌, ℕ, ◌+◌, ◌≤◌, ltb, [], pos, Option, Some, None}
use Rattle.std.proofs.Common.{Ordering, Greater}
use Rattle.lie_math.specs.Monomial.{Monomial, exponent, single}
use Rattle.lie_math.specs.Polynomial.{WholePolynomial, coefficient}
use Rattle.lie_math.specs.Variables.{IsIn}
use Rattle.lie_geometry.specs.Coordinates.{Space, Coordinate, independent, jet, number, coordinate}
use Rattle.lie_ring.specs.Rankings.{Ranked, degree_rank}
use Rattle.lie_system.specs.Systems.{EquationRead}

-- the variable w is in a term of P
abbrev pub Occurs : ℕ → WholePolynomial → Type 0
Occurs w P = (m : Monomial) × (¬ (coefficient P m ≡ pos 0)) × (¬ (exponent m w ≡ 0))

-- the number of a derivative of order 1 or more
abbrev pub IsDerivative : Space → ℕ → Type 0
IsDerivative S w = S.p + S.q ≤ w

-- a polynomial in the independent and dependent variables alone
abbrev pub HasNoDerivative : Space → WholePolynomial → Type 0
HasNoDerivative S P = IsIn (λ w. ltb w (S.p + S.q)) P

-- a coordinate as rankings see it
abbrev pub ranked : Coordinate → Ranked
ranked (independent i) = ([], 0)
ranked (jet a J) = (J, a)

-- ---- under any order of derivatives
abbrev pub JetOrder : Type 0
JetOrder = Ranked → Ranked → Ordering

-- the greatest derivative that occurs
pub record IsGreatestUnder (rank : JetOrder) (S : Space) (P : WholePolynomial) (w : ℕ) : Type 0 where
  pub derivative : IsDerivative S w
  pub occurs : Occurs w P
  pub greatest : (v : ℕ) → IsDerivative S v → Occurs v P → ¬ (rank (ranked (coordinate S v)) (ranked (coordinate S w)) ≡ Greater)

abbrev pub IsLeadByUnder : JetOrder → Space → Option Coordinate → WholePolynomial → ℕ → Type 0
IsLeadByUnder rank S (Some c) P w = w ≡ number S c
IsLeadByUnder rank S None P w = IsGreatestUnder rank S P w

-- the derivative that is the left side alone, and else the greatest one
abbrev pub IsLeadUnder : JetOrder → Space → EquationRead → ℕ → Type 0
IsLeadUnder rank S e w = IsLeadByUnder rank S e.lead e.diff w

-- ---- by the order of derivatives, then the dependent variable, then the counts
abbrev pub IsGreatest : Space → WholePolynomial → ℕ → Type 0
IsGreatest S P w = IsGreatestUnder degree_rank S P w

abbrev pub IsLeadBy : Space → Option Coordinate → WholePolynomial → ℕ → Type 0
IsLeadBy S o P w = IsLeadByUnder degree_rank S o P w

abbrev pub IsLead : Space → EquationRead → ℕ → Type 0
IsLead S e w = IsLeadUnder degree_rank S e w

-- ---- linear polynomials
-- a number that is not 0 times the variable, and terms without it
pub record IsLinearIn (w : ℕ) (P : WholePolynomial) : Type 0 where
  pub term : ¬ (coefficient P (single w) ≡ pos 0)
  pub alone : (m : Monomial) → ¬ (coefficient P m ≡ pos 0) → ¬ (exponent m w ≡ 0) → m ≡ single w
