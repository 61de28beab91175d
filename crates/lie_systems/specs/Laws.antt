-- The laws that the crate's functions promise, where they are long.
use Rattle.std.specs.Prelude.{◌≡◌, ℕ, ◌≤◌, List, ◌∷◌, ℤ, pos, unsigned_abs, ◌↔◌}
use Rattle.std.specs.List.{AllByRecursion as Every}
use Rattle.std.specs.Int.{◌∣◌}
use Rattle.std.specs.Cmp.{IsTotalOrder}
use Rattle.std.specs.FinMap.{IsAntisymmetric}
use Rattle.lie_math.specs.Monomial.{Monomial, exponent}
use Rattle.lie_math.specs.Polynomial.{WholePolynomial, 0ᴾ, term}
use Rattle.lie_math.specs.LinearForm.{LinearForm, no_form, times_form, apply}
use Rattle.lie_systems.specs.Triples.{Triple}
use Rattle.lie_systems.specs.EquationOrder.{equation_cmp}
use Rattle.lie_systems.specs.Normalised.{content, common_monomial, IsNormalised, primitive}

-- the order of equations is total, and only equal equations tie
abbrev pub EquationOrderIsTotal : Type 0
EquationOrderIsTotal = IsTotalOrder equation_cmp × IsAntisymmetric equation_cmp

-- g divides each number
abbrev pub DividesNumbers : ℕ → List Triple → Type 0
DividesNumbers g ts = Every (λ (t : Triple). g ∣ unsigned_abs t.2) ts

-- the content divides each number, and what divides each number divides it
abbrev pub ContentIsGreatest : Type 0
ContentIsGreatest = (ts : List Triple) → DividesNumbers (content ts) ts × ((g : ℕ) → DividesNumbers g ts → g ∣ content ts)

-- no exponent of m is greater than that of n
abbrev pub DividesMonomial : Monomial → Monomial → Type 0
DividesMonomial m n = (v : ℕ) → exponent m v ≤ exponent n v

abbrev pub DividesMonomials : Monomial → List Triple → Type 0
DividesMonomials m ts = Every (λ (t : Triple). DividesMonomial m t.1) ts

-- the common monomial divides each monomial, and what divides each divides it
abbrev pub CommonMonomialIsGreatest : Type 0
CommonMonomialIsGreatest = (t : Triple) (ts : List Triple)
    → DividesMonomials (common_monomial (t ∷ ts)) (t ∷ ts)
    × ((m : Monomial) → DividesMonomials m (t ∷ ts) → DividesMonomial m (common_monomial (t ∷ ts)))

-- what is left of an equation that is not empty is normalised
abbrev pub PrimitiveIsNormalised : Type 0
PrimitiveIsNormalised = (E : LinearForm) → ¬ (E ≡ no_form) → IsNormalised (primitive E)

-- the functions that solve an equation are those that solve its normalised equation
abbrev pub PrimitiveHasSameSolutions : Type 0
PrimitiveHasSameSolutions = (F : ℕ → WholePolynomial) (E : LinearForm) → apply F E ≡ 0ᴾ ↔ apply F (primitive E) ≡ 0ᴾ

-- two normalised forms of which multiples by terms are equal are equal
abbrev pub NormalisedIsUnique : Type 0
NormalisedIsUnique = (m n : Monomial) (a b : ℤ) → ¬ (a ≡ pos 0) → ¬ (b ≡ pos 0) → (N P : LinearForm) → IsNormalised N → IsNormalised P
    → times_form (term m a) N ≡ times_form (term n b) P → N ≡ P

-- a multiple by a term has the same normalised equation
abbrev pub PrimitiveOfMultiple : Type 0
PrimitiveOfMultiple = (m : Monomial) (a : ℤ) → ¬ (a ≡ pos 0) → (E : LinearForm) → primitive (times_form (term m a) E) ≡ primitive E
