-- When the parts of an operation fail.
use Rattle.std.specs.Prelude.{ℕ, ◌<◌, ◌≤◌, ◌^◌, ℤ, unsigned_abs}
use Rattle.lie_math.specs.Monomial.{Monomial, exponent}
use Rattle.lie_ring.specs.declared.failures.PastKind.TheVariants.{Coefficient, Exponent, Terms}
use Rattle.lie_ring.specs.declared.failures.PolyFail.{PolyFail}
use Rattle.lie_ring.specs.declared.failures.PolyFail.TheVariants.{Past, NoMemory}

-- for want of memory, or since there are already so many terms
abbrev pub IsFull : PolyFail → ℕ → Type 0
IsFull (Past Terms) n = 1000000 ≤ n
IsFull (Past kind) n = ⊥
IsFull NoMemory n = Unit {0}

-- since the bulk is past the limit
abbrev pub IsWide : PolyFail → ℕ → Type 0
IsWide (Past Coefficient) bulk = 2 ^ 127 ≤ bulk
IsWide (Past kind) bulk = ⊥
IsWide NoMemory bulk = ⊥

-- for want of memory, or since the term with this monomial and coefficient is past a limit
abbrev pub IsTermCause : PolyFail → Monomial → ℤ → Type 0
IsTermCause (Past Coefficient) m z = 2 ^ 127 ≤ unsigned_abs z
IsTermCause (Past Exponent) m z = (v : ℕ) × (65535 < exponent m v)
IsTermCause (Past kind) m z = ⊥
IsTermCause NoMemory m z = Unit {0}

-- for want of memory, or since the number is past the limit
abbrev pub IsWideNumber : PolyFail → ℤ → Type 0
IsWideNumber (Past Coefficient) z = 2 ^ 127 ≤ unsigned_abs z
IsWideNumber (Past kind) z = ⊥
IsWideNumber NoMemory z = Unit {0}

-- for want of memory
abbrev pub IsStarved : PolyFail → Type 0
IsStarved (Past kind) = ⊥
IsStarved NoMemory = Unit {0}
