-- Forms of worked values: the variables are x and y, and f1 and f2 are functions of both.
use Rattle.std.specs.Prelude.{ℕ, ltb, List, [], ◌∷◌}
use Rattle.lie_math.specs.LinearSystem.{Unknown}
use Rattle.lie_math.specs.Monomial.{exponent}
use Rattle.std.specs.Prelude.{◌≡◌, false}
use Rattle.lie_systems.specs.Triples.{Triple}
use Rattle.lie_systems.specs.ValidSystems.{IsOwned}

abbrev pub functions : List Unknown
functions = record { number = 1; variables = 0 ∷ 1 ∷ [] } ∷ record { number = 2; variables = 0 ∷ 1 ∷ [] } ∷ []

-- a triple of these functions and variables
abbrev pub IsTripleOf : Triple → Type 0
IsTripleOf t = IsOwned functions t.0 × ((v : ℕ) → ltb v 2 ≡ false → exponent t.1 v ≡ 0)
