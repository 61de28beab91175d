-- The laws that the crate's functions promise, where they are long.
use Rattle.std.specs.Prelude.{◌≡◌, ℕ, ◌*◌, ◌<◌, ◌≤◌, ◌⊎◌, Bool, cond, eqb, List, length, ℤ, pos, ◌↔◌}
use Rattle.std.specs.Cmp.{IsTotalOrder}
use Rattle.std.specs.FinMap.{IsAntisymmetric}
use Rattle.std.proofs.Common.{Less}
use Rattle.lie_math.specs.Monomial.{degree, Monomial, ◌·◌, exponent, monomial_cmp, power_of}
use Rattle.lie_math.specs.Polynomial.{WholePolynomial, coefficient, constant, variable, 0ᴾ, negᴾ, ◌+ᴾ◌, ◌*ᴾ◌}
use Rattle.lie_math.specs.PolynomialRing.{polynomial_algebra}
use Rattle.lie_math.specs.PartialDerivative.{partial}
use Rattle.lie_math.specs.Derivation.{IsDerivation, sum_of, numbers_below, bound}
use Rattle.lie_math.specs.Counts.{derivative_cmp, trimmed}
use Rattle.lie_math.specs.Evaluation.{value_in}
use Rattle.lie_math.specs.Variables.{IsIn}
use Rattle.lie_math.specs.Powers.{power_coefficient}
use Rattle.lie_math.specs.RationalPolynomial.{RationalPolynomial, IsSameRational}
use Rattle.lie_math.specs.VectorField.{VectorField, IsSameField}
use Rattle.lie_math.specs.LinearSystem.{LinearSystem, Gives}

-- the print order is total, and only equal monomials tie
abbrev pub PrintOrderIsTotal : Type 0
PrintOrderIsTotal = IsTotalOrder monomial_cmp × IsAntisymmetric monomial_cmp

-- the printed order of derivatives is total, and only equal derivatives tie
abbrev pub DerivativeOrderIsTotal : Type 0
DerivativeOrderIsTotal = IsTotalOrder derivative_cmp × IsAntisymmetric derivative_cmp

-- derivatives whose lists of counts are equally long stand in the order in which they stand without the zeros at the end
abbrev pub TrimmedCountsKeepOrder : Type 0
TrimmedCountsKeepOrder = (f g : ℕ) (J K : List ℕ) → length J ≡ length K
    → derivative_cmp (record { unknown = f; counts = trimmed J }) (record { unknown = g; counts = trimmed K })
    ≡ derivative_cmp (record { unknown = f; counts = J }) (record { unknown = g; counts = K })

-- m has the greater exponent at the first variable where the two differ
pub record HasFirstGreater (m n : Monomial) : Type 0 where
  pub variable : ℕ
  pub greater : exponent n variable < exponent m variable
  pub before : (w : ℕ) → w < variable → exponent m w ≡ exponent n w

-- m comes first exactly if its degree is greater, or the degrees are the same and it has the first greater exponent
abbrev pub PrintOrderIsByExponents : Type 0
PrintOrderIsByExponents = (m n : Monomial)
    → monomial_cmp m n ≡ Less ↔ ((degree n < degree m) ⊎ ((degree m ≡ degree n) × HasFirstGreater m n))

-- the ring laws
pub record PolynomialsAreRing : Type 0 where
  pub sums_associate : (p q r : WholePolynomial) → (p +ᴾ q) +ᴾ r ≡ p +ᴾ (q +ᴾ r)
  pub sums_commute : (p q : WholePolynomial) → p +ᴾ q ≡ q +ᴾ p
  pub zero_adds_nothing : (p : WholePolynomial) → 0ᴾ +ᴾ p ≡ p
  pub negatives_cancel : (p : WholePolynomial) → negᴾ p +ᴾ p ≡ 0ᴾ
  pub products_associate : (p q r : WholePolynomial) → (p *ᴾ q) *ᴾ r ≡ p *ᴾ (q *ᴾ r)
  pub products_commute : (p q : WholePolynomial) → p *ᴾ q ≡ q *ᴾ p
  pub one_multiplies_nothing : (p : WholePolynomial) → constant (pos 1) *ᴾ p ≡ p
  pub products_distribute : (p q r : WholePolynomial) → p *ᴾ (q +ᴾ r) ≡ p *ᴾ q +ᴾ p *ᴾ r

-- h keeps whole numbers, sums and products
pub record IsHomomorphism (h : WholePolynomial → WholePolynomial) : Type 0 where
  pub constants : (c : ℤ) → h (constant c) ≡ constant c
  pub sums : (p q : WholePolynomial) → h (p +ᴾ q) ≡ h p +ᴾ h q
  pub products : (p q : WholePolynomial) → h (p *ᴾ q) ≡ h p *ᴾ h q

-- putting polynomials in for the variables is the one homomorphism that takes each variable to what is put in for it
abbrev pub SubstitutionIsHomomorphism : Type 0
SubstitutionIsHomomorphism = (s : ℕ → WholePolynomial)
    → IsHomomorphism (value_in polynomial_algebra s) × ((v : ℕ) → value_in polynomial_algebra s (variable v) ≡ s v)

abbrev pub HomomorphismIsSubstitution : Type 0
HomomorphismIsSubstitution = (h : WholePolynomial → WholePolynomial) → IsHomomorphism h → (p : WholePolynomial)
    → h p ≡ value_in polynomial_algebra (λ v. h (variable v)) p

-- a derivation is the sum of its values at the variables times the partial derivatives
abbrev pub DerivationIsChainRule : Type 0
DerivationIsChainRule = (D : WholePolynomial → WholePolynomial) → IsDerivation D → (p : WholePolynomial)
    → D p ≡ sum_of (numbers_below (bound p)) (λ w. D (variable w) *ᴾ partial w p)

-- a polynomial in the variables of S is told by putting 0 in for the others
abbrev pub InIsKept : Type 0
InIsKept = (S : ℕ → Bool) (p : WholePolynomial) → IsIn S p ↔ value_in polynomial_algebra (λ w. cond (S w) (variable w) 0ᴾ) p ≡ p

-- the coefficient of the i-th power of v has no v, and has the coefficients of p at the multiples of that power
abbrev pub PowerCoefficientIsCoefficient : Type 0
PowerCoefficientIsCoefficient = (v i : ℕ) (p : WholePolynomial) (m : Monomial)
    → coefficient (power_coefficient v i p) m ≡ cond (eqb (exponent m v) 0) (coefficient p (power_of v i · m)) (pos 0)

-- equality of rational polynomials is an equivalence, where the numbers are at least 1
pub record SameRationalIsEquivalence : Type 0 where
  pub itself : (r : RationalPolynomial) → IsSameRational r r
  pub swapped : (r s : RationalPolynomial) → IsSameRational r s → IsSameRational s r
  pub joined : (r s t : RationalPolynomial) → 0 < s.over → IsSameRational r s → IsSameRational s t → IsSameRational r t

-- a number may be multiplied to both parts
abbrev pub MultipleIsSameRational : Type 0
MultipleIsSameRational = (n : ℕ) (r : RationalPolynomial)
    → IsSameRational (record { over = n * r.over; whole = constant (pos n) *ᴾ r.whole }) r

-- what a system gives does not depend on how the field is written
abbrev pub GivesSameField : Type 0
GivesSameField = (S : LinearSystem) (V W : VectorField) → 0 < V.denominator → 0 < W.denominator → IsSameField V W → Gives S V ↔ Gives S W

-- f m is at most the greatest, n, at each term m of p, and is n at some term, unless p is 0
abbrev pub IsGreatest : (Monomial → ℕ) → WholePolynomial → ℕ → Type 0
IsGreatest f p n = ((m : Monomial) → ¬ (coefficient p m ≡ pos 0) → f m ≤ n)
    × (¬ (p ≡ 0ᴾ) → (m : Monomial) × (¬ (coefficient p m ≡ pos 0)) × (f m ≡ n))
