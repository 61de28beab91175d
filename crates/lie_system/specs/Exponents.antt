-- The exponents of a term.
use Rattle.std.specs.Prelude.{ℕ, ◌≤◌}
use Rattle.lie_math.specs.Monomial.{Monomial, exponent}
use Rattle.lie_system.specs.Limits.{greatest_written_exponent}

-- no exponent is past the greatest that is written
abbrev pub HasSmallExponents : Monomial → Type 0
HasSmallExponents m = (v : ℕ) → exponent m v ≤ greatest_written_exponent
