-- Fractions in lowest terms.
use Rattle.std.specs.Prelude.{◌≡◌, ℕ, ◌*◌, ◌<◌, ◌≤◌, ℤ, pos, ◌*ℤ◌, unsigned_abs}
use Rattle.std.specs.Int.{◌∣◌, IsGcd}
use Rattle.lie_math.specs.Limits.{number_limit}
use Rattle.lie_integral.specs.declared.fractions.Fraction.{Fraction}

-- a number of at least 1
abbrev pub IsPositive : ℤ → Type 0
IsPositive z = (z ≡ pos (unsigned_abs z)) × (0 < unsigned_abs z)

-- x over y is n over D in lowest terms
pub record IsLowest (n : ℤ) (D : ℕ) (x : ℤ) (y : ℕ) : Type 0 where
  pub some : 0 < D
  pub same : x *ℤ pos D ≡ n *ℤ pos y
  pub positive : 0 < y
  pub lowest : IsGcd (unsigned_abs x) y 1

abbrev pub IsFraction : ℤ → ℕ → Fraction → Type 0
IsFraction n D r = IsPositive r.divisor × IsLowest n D r.number (unsigned_abs r.divisor)

-- what makes a over D whole is past the limit
abbrev pub NoneClears : ℕ → ℕ → Type 0
NoneClears D a = (M : ℕ) → 0 < M → D ∣ M * a → number_limit ≤ M
