-- Derivations of polynomials: the one with given values at the variables, and the commutator of two.
use Rattle.std.specs.Prelude.{◌≡◌, ℕ, zero, suc, List, [], ◌∷◌, ℤ, Bool}
use Rattle.std.proofs.Common.{ltb}
use Rattle.lie_math.specs.Polynomial.{terms, 0ᴾ, WholePolynomial, constant, negᴾ, ◌*ᴾ◌, ◌+ᴾ◌}
use Rattle.lie_math.specs.Monomial.{powers}
use Rattle.lie_math.specs.Natural.{maxima}
use Rattle.lie_math.specs.FiniteSum as finite
use Rattle.lie_math.specs.PartialDerivative.{partial}

-- the sum of f over a list of numbers
abbrev pub sum_of : List ℕ → (ℕ → WholePolynomial) → WholePolynomial
sum_of [] f = 0ᴾ
sum_of (i ∷ is) f = f i +ᴾ sum_of is f

-- the numbers below n
abbrev pub numbers_below : ℕ → List ℕ
numbers_below zero = []
numbers_below (suc n) = n ∷ numbers_below n

abbrev pub is_below : ℕ → ℕ → Bool
is_below n w = ltb w n

-- above each variable that occurs in p
abbrev pub bound : WholePolynomial → ℕ
bound p = finite.sum_over terms maxima (λ m a. finite.sum_over powers maxima (λ w e. suc w) m) p

-- the derivation that takes each variable w to d w: by the chain rule
unfoldable pub derivation : (ℕ → WholePolynomial) → WholePolynomial → WholePolynomial
derivation d p = sum_of (numbers_below (bound p)) (λ w. d w *ᴾ partial w p)

-- D keeps sums, has the product rule, and is 0 at whole numbers
pub record IsDerivation (D : WholePolynomial → WholePolynomial) : Type 0 where
  pub plus : (p q : WholePolynomial) → D (p +ᴾ q) ≡ D p +ᴾ D q
  pub times : (p q : WholePolynomial) → D (p *ᴾ q) ≡ p *ᴾ D q +ᴾ D p *ᴾ q
  pub whole : (c : ℤ) → D (constant c) ≡ 0ᴾ

-- the commutator of two derivations is one
abbrev pub bracket : (WholePolynomial → WholePolynomial) → (WholePolynomial → WholePolynomial) → WholePolynomial → WholePolynomial
bracket D E p = D (E p) +ᴾ negᴾ (E (D p))
