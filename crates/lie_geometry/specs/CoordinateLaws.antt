-- What the functions of `coordinates` and `totals` promise: the numbers of coordinates, and total derivatives.
use Rattle.std.specs.Prelude.{◌≡◌, ℕ, ◌<◌, ◌≤◌, List, [], ◌∷◌, ◌⊎◌, ◌↔◌}
use Rattle.lie_math.specs.Counts.{order, raise}
use Rattle.lie_math.specs.Derivation.{IsDerivation}
use Rattle.lie_math.specs.PartialDerivative.{partial}
use Rattle.lie_math.specs.Polynomial.{WholePolynomial, variable}
use Rattle.lie_geometry.specs.Coordinates.{Space, Coordinate, independent, jet, IsCoordinate}
use Rattle.lie_geometry.specs.Coordinates.{order_of, number, coordinates_up_to, coordinate}
use Rattle.lie_geometry.specs.Prolongation.{jet_variable, total_derivative}

-- a space has variables of both kinds
abbrev pub IsSpace : Space → Type 0
IsSpace S = (0 < S.p) × (0 < S.q)

-- number and coordinate are each other's inverse
abbrev pub NumbersAreInverse : Type 0
NumbersAreInverse = (S : Space) → IsSpace S →
    ((w : ℕ) → IsCoordinate S (coordinate S w) × (number S (coordinate S w) ≡ w))
    × ((c : Coordinate) → IsCoordinate S c → coordinate S (number S c) ≡ c)

-- lexicographically greater
abbrev pub GreaterCounts : List ℕ → List ℕ → Type 0
GreaterCounts [] K = ⊥
GreaterCounts (c ∷ J) [] = ⊥
GreaterCounts (c ∷ J) (d ∷ K) = (d < c) ⊎ ((c ≡ d) × GreaterCounts J K)

-- the independent variables, then by order, by dependent variable, and the lexicographically greater counts first
abbrev pub Before : Coordinate → Coordinate → Type 0
Before (independent i) (independent j) = i < j
Before (independent i) (jet b K) = Unit {0}
Before (jet a J) (independent j) = ⊥
Before (jet a J) (jet b K) = (order J < order K) ⊎ ((order J ≡ order K) × ((a < b) ⊎ ((a ≡ b) × GreaterCounts J K)))

abbrev pub NumbersRise : Type 0
NumbersRise = (S : Space) → IsSpace S → (c d : Coordinate) → IsCoordinate S c → IsCoordinate S d → Before c d → number S c < number S d

-- the coordinates of the orders 0 to n are those with the numbers below
abbrev pub OrdersAreBelow : Type 0
OrdersAreBelow = (S : Space) → IsSpace S → (w n : ℕ) → order_of (coordinate S w) ≤ n ↔ w < coordinates_up_to S n

-- up to 4 variables of each kind, and up to order 12
abbrev pub NumbersAreSmall : Type 0
NumbersAreSmall = (S : Space) → IsSpace S → S.p ≤ 4 → S.q ≤ 4 → (a : ℕ) (J : List ℕ) → IsCoordinate S (jet a J) → order J ≤ 12 →
    number S (jet a J) < 7284

abbrev pub TotalsCommute : Type 0
TotalsCommute = (S : Space) → IsSpace S → (i j : ℕ) → i < S.p → j < S.p → (P : WholePolynomial) →
    total_derivative S i (total_derivative S j P) ≡ total_derivative S j (total_derivative S i P)

abbrev pub TotalsAreDerivations : Type 0
TotalsAreDerivations = (S : Space) (i : ℕ) → IsDerivation (total_derivative S i)

-- of an independent variable 1 or 0, and of a jet the jet derived once more
abbrev pub TotalsOfCoordinates : Type 0
TotalsOfCoordinates = (S : Space) → IsSpace S → (i : ℕ) → i < S.p →
    ((j : ℕ) → j < S.p → total_derivative S i (variable j) ≡ partial i (variable j))
    × ((a : ℕ) (J : List ℕ) → IsCoordinate S (jet a J) → total_derivative S i (jet_variable S a J) ≡ jet_variable S a (raise i J))
