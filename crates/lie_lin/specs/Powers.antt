-- Powers in a list, and terms that are divided.
use Rattle.std.specs.Prelude.{ℕ, eqb, cond, List, [], ◌∷◌, ℤ, unsigned_abs}
use Rattle.std.specs.Int.{◌∣◌}
use Rattle.lie_math.specs.Monomial.{Monomial}
use Rattle.lie_systems.specs.Laws.{DividesMonomial}

-- a power, or nothing where the exponent is 0
abbrev pub power_unless_zero : ℕ → ℕ → List (ℕ × ℕ)
power_unless_zero v e = cond (eqb e 0) [] ((v, e) ∷ [])

-- the number and the monomial divide the term
abbrev pub IsDividedTerm : Monomial → ℤ → Monomial × ℤ → Type 0
IsDividedTerm m a t = (unsigned_abs a ∣ unsigned_abs t.1) × DividesMonomial m t.0
