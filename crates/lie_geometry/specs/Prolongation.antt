-- Total derivatives and prolonged fields. A variable of a polynomial is the number of a coordinate; V s is the component of a field at
-- the s-th of the variables z, the independent and then the dependent ones.
use Rattle.std.specs.Prelude.{ℕ, suc, ◌+◌, Bool, List, [], ◌∷◌, ◌++◌, replicate}
use Rattle.lie_math.specs.Counts.{raise}
use Rattle.lie_math.specs.Derivation.{sum_of, numbers_below, is_below, derivation}
use Rattle.lie_math.specs.PartialDerivative.{partial}
use Rattle.lie_math.specs.Polynomial.{WholePolynomial, 0ᴾ, ◌+ᴾ◌, ◌*ᴾ◌, variable, negᴾ}
use Rattle.lie_math.specs.Variables.{IsIn}
use Rattle.lie_geometry.specs.Coordinates.{Space, Coordinate, independent, jet, number, coordinate}

-- the variables z
abbrev pub is_in_z : Space → ℕ → Bool
is_in_z S = is_below (S.p + S.q)

-- a polynomial in z alone
abbrev pub InZ : Space → WholePolynomial → Type 0
InZ S f = IsIn (is_in_z S) f

-- the variables of a list of counts, each as often as its count, the last first
abbrev pub indices_from : ℕ → List ℕ → List ℕ
indices_from i [] = []
indices_from i (c ∷ J) = indices_from (suc i) J ++ replicate c i

abbrev pub indices : List ℕ → List ℕ
indices J = indices_from 0 J

module _ (S : Space) where
  -- the jet J of the dependent variable a
  abbrev pub jet_variable : ℕ → List ℕ → WholePolynomial
  jet_variable a J = variable (number S (jet a J))

  -- what a coordinate becomes when it is derived by x_i
  abbrev pub coordinate_derivative : ℕ → Coordinate → WholePolynomial
  coordinate_derivative i (independent j) = 0ᴾ
  coordinate_derivative i (jet a J) = jet_variable a (raise i J)

  -- the total derivative by x_i: by the variable itself, and by each coordinate that occurs, times what it becomes
  unfoldable pub total_derivative : ℕ → WholePolynomial → WholePolynomial
  total_derivative i P = partial i P +ᴾ derivation (λ w. coordinate_derivative i (coordinate S w)) P

  -- how often each variable stands in a list of indices
  abbrev pub counts_of_indices : List ℕ → List ℕ
  counts_of_indices [] = replicate S.p 0
  counts_of_indices (k ∷ W) = raise k (counts_of_indices W)

  -- the prolonged coefficient of the dependent variable a, by its variables of derivation
  unfoldable pub prolonged_coefficient : (ℕ → WholePolynomial) → ℕ → List ℕ → WholePolynomial
  prolonged_coefficient V a [] = V (S.p + a)
  prolonged_coefficient V a (k ∷ W) = total_derivative k (prolonged_coefficient V a W) +ᴾ negᴾ (sum_of (numbers_below S.p)
      (λ i. total_derivative k (V i) *ᴾ jet_variable a (raise i (counts_of_indices W))))

  abbrev pub coefficient_at : (ℕ → WholePolynomial) → Coordinate → WholePolynomial
  coefficient_at V (independent i) = V i
  coefficient_at V (jet a J) = prolonged_coefficient V a (indices J)

  -- the prolonged field, of every order: the derivation with the prolonged coefficients at the coordinates
  abbrev pub prolonged_field : (ℕ → WholePolynomial) → WholePolynomial → WholePolynomial
  prolonged_field V = derivation (λ w. coefficient_at V (coordinate S w))
