-- Systems of differential equations in solved form, and reduction by them.
use Rattle.std.specs.Prelude.{◌≡◌, ℕ, ◌+◌, ◌-◌, ◌≤◌, Bool, cond, not, List, [], ◌∷◌, eqb, All, AllPairs, ℤ, pos, ◌*ℤ◌}
use Rattle.std.specs.List.{list_any}
use Rattle.lie_math.specs.Evaluation.{to_power, monomial_value}
use Rattle.lie_math.specs.Integer.{integer_algebra}
use Rattle.lie_math.specs.Monomial.{Monomial, exponent}
use Rattle.lie_math.specs.Polynomial.{WholePolynomial, ◌+ᴾ◌, over_terms, ◌*ᴾ◌, constant, variable, negᴾ}
use Rattle.lie_math.specs.PolynomialRing.{polynomial_algebra}
use Rattle.lie_math.specs.Powers.{degree_in}
use Rattle.lie_math.specs.Variables.{IsIn}
use Rattle.lie_geometry.specs.Coordinates.{Space}

-- factor * lead = right, where lead is the number of a coordinate
pub record SolvedEquation : Type 0 where
  pub lead : ℕ
  pub factor : ℤ
  pub right : WholePolynomial

abbrev pub difference : SolvedEquation → WholePolynomial
difference equation = constant equation.factor *ᴾ variable equation.lead +ᴾ negᴾ equation.right

abbrev pub is_lead : List SolvedEquation → ℕ → Bool
is_lead equations w = list_any (λ equation. eqb w equation.lead) equations

-- no factor is 0, no two leads are the same, and no lead stands in a right side
pub record IsSolved (equations : List SolvedEquation) : Type 0 where
  pub factors : All (λ equation. ¬ (equation.factor ≡ pos 0)) equations
  pub leads : AllPairs (λ equation other. ¬ (equation.lead ≡ other.lead)) equations
  pub rights : All (λ equation. IsIn (λ w. not (is_lead equations w)) equation.right) equations

-- each lead is a derivative of order 1 or more
abbrev pub HaveHighLeads : Space → List SolvedEquation → Type 0
HaveHighLeads S equations = All (λ equation. S.p + S.q ≤ equation.lead) equations

-- ---- reduction
-- what a variable is replaced by: a lead by the right side of its equation
abbrev pub replacement : List SolvedEquation → ℕ → WholePolynomial
replacement [] w = variable w
replacement (equation ∷ equations) w = cond (eqb w equation.lead) equation.right (replacement equations w)

-- the product of each equation's factor to the power e - m, for the exponents e given and m in the monomial of its lead
abbrev pub missing_powers : List SolvedEquation → (ℕ → ℕ) → Monomial → ℤ
missing_powers [] e m = pos 1
missing_powers (equation ∷ equations) e m =
    to_power integer_algebra equation.factor (e equation.lead - exponent m equation.lead) *ℤ missing_powers equations e m

-- the power product of the factors, with the exponents that e has at their leads
abbrev pub factor_powers : List SolvedEquation → (ℕ → ℕ) → ℤ
factor_powers [] e = pos 1
factor_powers (equation ∷ equations) e = to_power integer_algebra equation.factor (e equation.lead) *ℤ factor_powers equations e

unfoldable pub reduced_by : List SolvedEquation → (ℕ → ℕ) → WholePolynomial → WholePolynomial
reduced_by equations e P =
    over_terms (λ m a. constant (a *ℤ missing_powers equations e m) *ᴾ monomial_value polynomial_algebra (replacement equations) m) P

-- each lead replaced, and each term multiplied so that all have the same power of each factor
abbrev pub reduced : List SolvedEquation → WholePolynomial → WholePolynomial
reduced equations P = reduced_by equations (λ w. degree_in w P) P
