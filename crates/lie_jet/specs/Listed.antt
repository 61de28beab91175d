-- Terms in a list, and their bulk.
use Rattle.std.specs.Prelude.{◌≡◌, ℕ, ◌≤◌, List, ℤ}
use Rattle.lie_math.specs.Limits.{absolutes}
use Rattle.lie_math.specs.Monomial.{Monomial, exponent}
use Rattle.lie_math.specs.Polynomial.{WholePolynomial, polynomial_of}
use Rattle.lie_ring.specs.Entries.{entries}

-- the sum of the terms
abbrev pub sum_listed : List (Monomial × ℤ) → WholePolynomial
sum_listed ts = polynomial_of (entries (λ z. z) ts)

-- the sum of the terms with the absolute values of their coefficients
abbrev pub bulk_listed : List (Monomial × ℤ) → WholePolynomial
bulk_listed ts = polynomial_of (absolutes (entries (λ z. z) ts))

-- each variable has a number below n
abbrev pub HasVariablesBelow : ℕ → Monomial → Type 0
HasVariablesBelow n m = (v : ℕ) → n ≤ v → exponent m v ≡ 0
