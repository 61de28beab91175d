-- Integrals of the terms of a coefficient, and numbers that make integrals whole.
use Rattle.std.specs.Prelude.{ℕ, ◌<◌, ◌≤◌, ◌↔◌, List, map, ℤ, pos, neg_ℤ, ◌*ℤ◌, unsigned_abs, int_div}
use Rattle.std.specs.Int.{◌∣◌}
use Rattle.lie_math.specs.Limits.{number_limit}
use Rattle.lie_math.specs.Monomial.{Monomial, exponent, power_of, ◌·◌}
use Rattle.lie_math.specs.Polynomial.{WholePolynomial, polynomial_of}
use Rattle.lie_systems.specs.Triples.{Triple}
use Rattle.lie_steps.specs.Integrate.{rising, Clears}
use Rattle.lie_integral.specs.Fractions.{IsPositive}

-- L times the k-fold integral of a term by v, over -c
abbrev pub integrated_term : ℤ → ℕ → ℕ → ℕ → Monomial × ℤ → Monomial × ℤ
integrated_term c v k L e = (power_of v k · e.0, int_div (neg_ℤ (pos L *ℤ e.1)) (c *ℤ pos (rising (exponent e.0 v) k)))

-- L times that is whole
abbrev pub ClearsTerm : ℤ → ℕ → ℕ → ℕ → Monomial × ℤ → Type 0
ClearsTerm c v k L e = unsigned_abs (c *ℤ pos (rising (exponent e.0 v) k)) ∣ unsigned_abs (pos L *ℤ e.1)

-- the same of all terms of a polynomial
abbrev pub integrated_terms : ℤ → ℕ → ℕ → ℕ → WholePolynomial → List (Monomial × ℤ)
integrated_terms c v k L p = map (integrated_term c v k L) p.list

abbrev pub integrated_polynomial : ℤ → ℕ → ℕ → ℕ → WholePolynomial → WholePolynomial
integrated_polynomial c v k L p = polynomial_of (integrated_terms c v k L p)

-- the numbers that make the integrals of the triples whole are the multiples of L
pub record IsDenominator (c : ℤ) (v k : ℕ) (ts : List Triple) (L : ℤ) : Type 0 where
  pub positive : IsPositive L
  pub multiples : (M : ℕ) → Clears c v k ts M ↔ (unsigned_abs L ∣ M)

-- what makes them whole is past the limit
abbrev pub IsWide : ℤ → ℕ → ℕ → List Triple → Type 0
IsWide c v k ts = (M : ℕ) → 0 < M → Clears c v k ts M → number_limit ≤ M
