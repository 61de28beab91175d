-- Systems as files give them: what is said of names and equations that can be written.
use Rattle.std.specs.Prelude.{ℕ, ◌+◌, ◌≡◌, ◌≤◌, ◌<◌, ◌==◌, ltb, ℤ, pos, ◌+ℤ◌, neg_ℤ, unsigned_abs, List, length, IfSome}
use Rattle.std.specs.List.{AllByRecursion as Every, IsDistinct}
use Rattle.lie_math.specs.Limits.{number_limit, FitsNumber}
use Rattle.lie_math.specs.Monomial.{Monomial, single}
use Rattle.lie_math.specs.Polynomial.{WholePolynomial, coefficient}
use Rattle.lie_math.specs.Variables.{IsIn}
use Rattle.lie_geometry.specs.Coordinates.{Space, Coordinate, IsCoordinate, order_of, number, coordinates_up_to}
use Rattle.lie_jet.specs.Jets.{IsSmall}
use Rattle.lie_jet.specs.Limits.{greatest_written_order}
use Rattle.lie_system.specs.Exponents.{HasSmallExponents}
use Rattle.lie_system.specs.Limits.{greatest_equation_count}
use Rattle.lie_system.specs.Systems.{EquationRead, SystemRead}

-- ---- names
-- from `a` to `z`
abbrev pub IsLowercase : ℕ → Type 0
IsLowercase n = (97 ≤ n) × (n ≤ 122)

-- letters, no two of them the same
pub record AreDistinctLetters (names : List ℕ) : Type 0 where
  pub letters : Every IsLowercase names
  pub distinct : IsDistinct (λ a b. a == b) names

-- ---- equations
-- a coordinate of an order from 1 to the greatest that is written
pub record IsLow (S : Space) (c : Coordinate) : Type 0 where
  pub coordinate : IsCoordinate S c
  pub some : 1 ≤ order_of c
  pub low : order_of c ≤ greatest_written_order

-- an equation in coordinates of written orders
pub record IsWritten (S : Space) (e : EquationRead) : Type 0 where
  pub lead : IfSome e.lead (IsLow S)
  pub diff : IsIn (λ w. ltb w (coordinates_up_to S greatest_written_order)) e.diff

-- not too many of them
pub record AreWritten (S : Space) (es : List EquationRead) : Type 0 where
  pub few : length es ≤ greatest_equation_count
  pub equations : Every (IsWritten S) es

-- c minus P right of c: on both sides the absolute values of c sum to at most 2^127 - 1
abbrev pub HasRoomBeside : Space → WholePolynomial → Coordinate → Type 0
HasRoomBeside S P c = 1 + unsigned_abs (pos 1 +ℤ neg_ℤ (coefficient P (single (number S c)))) < number_limit

-- exponents and numbers that can be written, where there is a lead also with the lead left
pub record HasWrittenSides (S : Space) (e : EquationRead) : Type 0 where
  pub exponents : (m : Monomial) → ¬ (coefficient e.diff m ≡ pos 0) → HasSmallExponents m
  pub numbers : (m : Monomial) → FitsNumber (coefficient e.diff m)
  pub lead : IfSome e.lead (HasRoomBeside S e.diff)

-- ---- systems
-- 1 to 4 variables of each kind, a letter for each, and equations that can be written, at least one
pub record IsWrittenSystem (s : SystemRead) : Type 0 where
  pub small : IsSmall s.space
  pub named : length s.names ≡ (s.space).p + (s.space).q
  pub letters : AreDistinctLetters s.names
  pub some : 1 ≤ length s.equations
  pub written : AreWritten s.space s.equations
  pub sides : Every (HasWrittenSides s.space) s.equations
