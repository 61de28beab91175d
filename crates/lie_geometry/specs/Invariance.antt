-- The prolonged field applied to an equation, and the infinitesimal condition of invariance.
use Rattle.std.specs.Prelude.{◌≡◌, ℕ, ◌+◌, ◌-◌, ◌<◌, List, [], ◌∷◌, length, max, All}
use Rattle.lie_math.specs.Derivation.{sum_of, numbers_below, bound}
use Rattle.lie_math.specs.PartialDerivative.{partial}
use Rattle.lie_math.specs.Polynomial.{WholePolynomial, 0ᴾ, ◌*ᴾ◌}
use Rattle.lie_math.specs.VectorField.{VectorField, component}
use Rattle.lie_geometry.specs.Coordinates.{Space, order_of, coordinates_up_to, coordinate}
use Rattle.lie_geometry.specs.Prolongation.{InZ, coefficient_at}
use Rattle.lie_geometry.specs.SolvedEquations.{SolvedEquation, difference, reduced}

-- the greatest order of a derivative in the equations: the order of the coordinate with the greatest number
abbrev pub greatest_order : Space → List SolvedEquation → ℕ
greatest_order S [] = 0
greatest_order S (equation ∷ equations) = max (order_of (coordinate S (bound (difference equation) - 1))) (greatest_order S equations)

-- the prolonged field applied to an equation, term by term over the coordinates up to the greatest order
unfoldable pub applied_prolongation : Space → List SolvedEquation → (ℕ → WholePolynomial) → SolvedEquation → WholePolynomial
applied_prolongation S equations V equation = sum_of (numbers_below (coordinates_up_to S (greatest_order S equations)))
    (λ w. coefficient_at S V (coordinate S w) *ᴾ partial w (difference equation))

-- what the equations leave of a polynomial
abbrev pub Reduction : Type 0
Reduction = Space → List SolvedEquation → WholePolynomial → WholePolynomial

-- by the equations as relations between jets, and not by what follows from them when they are derived
abbrev pub by_equations : Reduction
by_equations S equations P = reduced equations P

-- the invariance condition by a reduction, of components: the prolonged field applied to each equation is reduced to 0
abbrev pub AreInvariantBy : Reduction → Space → List SolvedEquation → (ℕ → WholePolynomial) → Type 0
AreInvariantBy reduction S equations V =
    All (λ equation. reduction S equations (applied_prolongation S equations V equation) ≡ 0ᴾ) equations

abbrev pub AreInvariant : Space → List SolvedEquation → (ℕ → WholePolynomial) → Type 0
AreInvariant = AreInvariantBy by_equations

-- of a field: its denominator times it has the components `component V`
abbrev pub IsInvariantBy : Reduction → Space → List SolvedEquation → VectorField → Type 0
IsInvariantBy reduction S equations V = AreInvariantBy reduction S equations (component V)

abbrev pub IsInvariant : Space → List SolvedEquation → VectorField → Type 0
IsInvariant = IsInvariantBy by_equations

-- a field on the space: a component for each of the variables z, in these variables alone
pub record IsFieldOn (S : Space) (V : VectorField) : Type 0 where
  pub positive : 0 < V.denominator
  pub size : length V.parts ≡ S.p + S.q
  pub in_z : All (InZ S) V.parts
