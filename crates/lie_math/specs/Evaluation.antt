-- The value of a polynomial in a ring, where each variable is told a value.
use Rattle.std.specs.Prelude.{ℕ, zero, suc}
use Rattle.lie_math.specs.Ring.{Algebra}
use Rattle.lie_math.specs.Polynomial.{WholePolynomial}
use Rattle.lie_math.specs.Monoid.{Adder}
use Rattle.lie_math.specs.SortedSum.{sum_of_entries}
use Rattle.lie_math.specs.Monomial.{Monomial, powers}
use Rattle.lie_math.specs.FiniteSum as finite

module _ {B : Type 0} (A : Algebra B) where
  -- products as sums
  abbrev pub factors : Adder B
  factors = record { nil = A.ring.one; plus = A.ring.times; idl = A.ring.times_idl; assoc = A.ring.times_assoc; comm = A.ring.times_comm }

  abbrev pub to_power : B → ℕ → B
  to_power b zero = A.ring.one
  to_power b (suc n) = A.ring.times b (to_power b n)

  module _ (at : ℕ → B) where
    -- the product of the powers of the values, and the sum of the numbers times these
    abbrev pub monomial_value : Monomial → B
    monomial_value m = finite.sum_over powers factors (λ v e. to_power (at v) e) m

    unfoldable pub value_in : WholePolynomial → B
    value_in p = sum_of_entries A.ring.adder (λ m a. A.ring.times (A.whole a) (monomial_value m)) p.list
