-- A monomial: a finite sum of variables with exponents above 0. Its degree, and the order in which monomials are printed.
use Rattle.std.specs.Prelude.{ℕ, List}
use Rattle.std.proofs.Common.{Ordering}
use Rattle.std.specs.Ordering.{nat_cmp, then_cmp, on, flip_args}
use Rattle.std.specs.Cmp.{nat_cmp_total}
use Rattle.std.specs.Cmp.Lexicographic.{slice_cmp}
use Rattle.std.specs.FinMap.{nat_cmp-IsAntisymmetric}
use Rattle.lie_math.specs.FiniteSum.{FiniteSum, Shape}
use Rattle.lie_math.specs.Natural.{exponents, naturals}
use Rattle.lie_math.specs.FiniteSum as finite

-- finite sums of variables, numbers, with exponents
abbrev pub powers : Shape ℕ ℕ
powers = record { order = nat_cmp; total = nat_cmp_total; same = nat_cmp-IsAntisymmetric; values = exponents }

abbrev pub Monomial : Type 0
Monomial = FiniteSum powers

abbrev pub exponent : Monomial → ℕ → ℕ
exponent m v = finite.value powers m v

-- the monomial without variables
abbrev pub unit : Monomial
unit = finite.none powers

-- the product: exponents are added
infixl 7 ◌·◌
abbrev pub ◌·◌ : Monomial → Monomial → Monomial
m · n = finite.plus powers m n

-- the sum of the exponents
abbrev pub degree : Monomial → ℕ
degree m = finite.sum_over powers naturals (λ v e. e) m

-- the lower variable first, and then the greater exponent
abbrev pub pair_cmp : ℕ × ℕ → ℕ × ℕ → Ordering
pair_cmp = then_cmp (on (λ p. p.0) nat_cmp) (on (λ p. p.1) (flip_args nat_cmp))

-- print order: the greater degree first, and then by the variables and exponents in turn
abbrev pub monomial_cmp : Monomial → Monomial → Ordering
monomial_cmp = then_cmp (on degree (flip_args nat_cmp)) (on (λ m. m.list) (slice_cmp pair_cmp))

-- the product of the powers of a list
abbrev pub monomial_of : List (ℕ × ℕ) → Monomial
monomial_of = finite.of powers

-- the variable v alone, and its power v^e
abbrev pub single : ℕ → Monomial
single v = finite.term powers v 1

abbrev pub power_of : ℕ → ℕ → Monomial
power_of v e = finite.term powers v e
