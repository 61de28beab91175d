-- An equation in one unknown with constant coefficients, in which the lowest derivative divides all others: of polynomials it says that
-- this derivative is 0.
use Rattle.std.specs.Prelude.{◌≡◌, ℕ, ◌<◌, [], ◌∷◌, length}
use Rattle.std.specs.List.{AllByRecursion as Every}
use Rattle.lie_math.specs.Monomial.{unit}
use Rattle.lie_math.specs.Counts.{Derivative}
use Rattle.lie_math.specs.LinearSystem.{LinearSystem}
use Rattle.lie_systems.specs.Triples.{Triple, triples}
use Rattle.lie_systems.specs.Leads.{Occurs}
use Rattle.lie_systems.specs.Normalised.{derivative_alone}
use Rattle.lie_steps.specs.Equations.{equation, IsPlace, Divides, with_equations_at}
use Rattle.lie_steps.specs.Tidying.{IsTidySystem}

-- the i-th equation has more than one triple, only constant monomials, and the derivative d, which divides all its derivatives
pub record IsLowestAt (S : LinearSystem) (i : ℕ) (d : Derivative) : Type 0 where
  pub place : IsPlace S i
  pub several : 1 < length (triples (equation S i))
  pub constant : Every (λ (t : Triple). t.1 ≡ unit) (triples (equation S i))
  pub occurs : Occurs d (equation S i)
  pub lowest : Every (λ (t : Triple). Divides d t.0) (triples (equation S i))

-- the equation becomes d = 0
abbrev pub lowered : LinearSystem → ℕ → Derivative → LinearSystem
lowered S i d = with_equations_at S i (derivative_alone d ∷ [])

abbrev pub AppliesLowest : LinearSystem → ℕ → Type 0
AppliesLowest S i = (d : Derivative) × IsLowestAt S i d

abbrev pub AfterLowest : LinearSystem → ℕ → LinearSystem → Type 0
AfterLowest S i T = (d : Derivative) × IsLowestAt S i d × IsTidySystem (lowered S i d) T
