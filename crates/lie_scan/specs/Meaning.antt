-- What a text says: monomials and sums of terms.
use Rattle.std.specs.Prelude.{ℕ, ◌+◌, Bool, true, false, List, [], ◌∷◌, ℤ, unsigned_abs, cond}
use Rattle.std.specs.Ordering.{eq_by_cmp}
use Rattle.lie_math.specs.Monomial.{Monomial, monomial_cmp, power_of, ◌·◌}

-- the product of a monomial and powers
abbrev pub product : Monomial → List (ℕ × ℕ) → Monomial
product m [] = m
product m (p ∷ ps) = product (m · power_of p.0 p.1) ps

-- the sum of the absolute values of the terms like a monomial
abbrev pub size_of : Monomial → List (Monomial × ℤ) → ℕ
size_of m [] = 0
size_of m (t ∷ ts) = cond (eq_by_cmp monomial_cmp m t.0) (unsigned_abs t.1) 0 + size_of m ts

-- the other sign where a sum is turned
abbrev pub turned_sign : Bool → Bool → Bool
turned_sign true true = false
turned_sign true false = true
turned_sign false b = b
