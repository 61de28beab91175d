-- A whole polynomial: a finite sum of monomials with whole numbers that are not 0. Sum, product, constants and variables.
use Rattle.std.specs.Prelude.{ℕ, List, ℤ, pos, negsuc, ◌*ℤ◌}
use Rattle.lie_math.specs.FiniteSum.{FiniteSum, Shape}
use Rattle.lie_math.specs.MonomialOrder.{monomial_cmp-IsAntisymmetric, monomial_cmp_total}
use Rattle.lie_math.specs.Monomial.{Monomial, monomial_cmp, single, unit, ◌·◌}
use Rattle.lie_math.specs.SortedSum.{sum_of_entries}
use Rattle.lie_math.specs.Monoid.{Adder}
use Rattle.lie_math.specs.Integer.{coefficients}
use Rattle.lie_math.specs.FiniteSum as finite
use Rattle.lie_math.specs.FiniteSumLaws as finite_laws

-- finite sums of monomials in print order, with whole numbers
abbrev pub terms : Shape Monomial ℤ
terms = record { order = monomial_cmp; total = monomial_cmp_total; same = monomial_cmp-IsAntisymmetric; values = coefficients }

abbrev pub WholePolynomial : Type 0
WholePolynomial = FiniteSum terms

abbrev pub coefficient : WholePolynomial → Monomial → ℤ
coefficient p m = finite.value terms p m

-- the sum of a list of terms
abbrev pub polynomial_of : List (Monomial × ℤ) → WholePolynomial
polynomial_of = finite.of terms

abbrev pub 0ᴾ : WholePolynomial
0ᴾ = finite.none terms

infixl 6 ◌+ᴾ◌
abbrev pub ◌+ᴾ◌ : WholePolynomial → WholePolynomial → WholePolynomial
p +ᴾ q = finite.plus terms p q

abbrev pub polynomials : Adder WholePolynomial
polynomials = finite_laws.adder terms

abbrev pub term : Monomial → ℤ → WholePolynomial
term m a = finite.term terms m a

-- the sum of φ over the terms
abbrev pub over_terms : (Monomial → ℤ → WholePolynomial) → WholePolynomial → WholePolynomial
over_terms φ p = sum_of_entries polynomials φ p.list

-- the sum of the products of each term with each
infixl 7 ◌*ᴾ◌
unfoldable pub ◌*ᴾ◌ : WholePolynomial → WholePolynomial → WholePolynomial
p *ᴾ q = over_terms (λ m a. over_terms (λ n b. term (m · n) (a *ℤ b)) q) p

abbrev pub constant : ℤ → WholePolynomial
constant c = term unit c

abbrev pub variable : ℕ → WholePolynomial
variable v = term (single v) (pos 1)

-- -p
abbrev pub negᴾ : WholePolynomial → WholePolynomial
negᴾ p = constant (negsuc 0) *ᴾ p
