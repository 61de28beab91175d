-- The norm of a polynomial and of a linear form: the sum of the absolute values of all its numbers.
use Rattle.std.specs.Prelude.{ℕ, length, unsigned_abs}
use Rattle.lie_math.specs.FiniteSum as finite
use Rattle.lie_math.specs.LinearForm.{forms, LinearForm}
use Rattle.lie_math.specs.Natural.{naturals}
use Rattle.lie_math.specs.Polynomial.{terms, WholePolynomial}

abbrev pub norm : WholePolynomial → ℕ
norm p = finite.sum_over terms naturals (λ m a. unsigned_abs a) p

abbrev pub form_norm : LinearForm → ℕ
form_norm E = finite.sum_over forms naturals (λ d a. norm a) E

-- how many numbers a form has, one for each triple of a derivative, a monomial and a number that is not 0
abbrev pub count_of_numbers : LinearForm → ℕ
count_of_numbers E = finite.sum_over forms naturals (λ d a. length a.list) E
