-- Coefficients that keep what is past a limit.
use Rattle.std.specs.Prelude.{◌≡◌, ℕ, ◌<◌, ◌≤◌, false, List, ℤ}
use Rattle.std.specs.List.{AllByRecursion as Every}
use Rattle.lie_math.specs.Counts.{Derivative, order}
use Rattle.lie_math.specs.FiniteSum as finite
use Rattle.lie_math.specs.LinearForm.{forms, LinearForm}
use Rattle.lie_systems.specs.Bulk.{greatest_form_order}
use Rattle.lie_ring.specs.declared.failures.PastKind.TheVariants.{Coefficient, Exponent, Terms, Order, Unknowns, Width}
use Rattle.lie_ring.specs.declared.failures.PolyFail.{PolyFail}
use Rattle.lie_ring.specs.declared.failures.PolyFail.TheVariants.{Past, NoMemory}
use Rattle.lie_math.specs.Limits.{HasWideCoefficient, HasHighExponent, HasManyTerms, HasLowExponents}
use Rattle.lie_math.specs.LinearSystem.{Unknown}
use Rattle.lie_math.specs.Monomial.{Monomial, exponent}
use Rattle.lie_math.specs.Polynomial.{WholePolynomial, 0ᴾ}
use Rattle.lie_steps.specs.Equations.{depends}
use Rattle.lie_replace.specs.Replacing.{occurrences}

-- where p is past a limit on numbers or terms, q is past it too, and q is not 0 where p is not
pub record GrowsTo (p q : WholePolynomial) : Type 0 where
  pub wide : HasWideCoefficient p → HasWideCoefficient q
  pub many : HasManyTerms p → HasManyTerms q
  pub some : ¬ (p ≡ 0ᴾ) → ¬ (q ≡ 0ᴾ)

-- the monomial has each variable of the list on which the unknown does not depend as often as the list, and its exponents are low
pub record IsLasting (us : List Unknown) (vs : List ℕ) (f : ℕ) (m : Monomial) : Type 0 where
  pub often : (w : ℕ) → depends us f w ≡ false → occurrences w vs ≤ exponent m w
  pub low : HasLowExponents m

-- ---- causes that stay
-- some derivative of an order past the limit occurs
abbrev pub HasHighDerivative : LinearForm → Type 0
HasHighDerivative B = (d : Derivative) × (¬ (finite.value forms B d ≡ 0ᴾ)) × (greatest_form_order < order d.counts)

-- the answer is for want of memory, or tells a limit on numbers, terms or orders that a coefficient or a derivative of the bulk is past
abbrev pub IsGrownCause : PolyFail → LinearForm → Type 0
IsGrownCause (Past Coefficient) B = (d : Derivative) × HasWideCoefficient (finite.value forms B d)
IsGrownCause (Past Exponent) B = ⊥
IsGrownCause (Past Terms) B = (d : Derivative) × HasManyTerms (finite.value forms B d)
IsGrownCause (Past Order) B = HasHighDerivative B
IsGrownCause (Past Unknowns) B = ⊥
IsGrownCause (Past Width) B = ⊥
IsGrownCause NoMemory B = Unit {0}

-- the same, or a limit on exponents
abbrev pub IsPartCause : PolyFail → LinearForm → Type 0
IsPartCause (Past Coefficient) B = (d : Derivative) × HasWideCoefficient (finite.value forms B d)
IsPartCause (Past Exponent) B = (d : Derivative) × HasHighExponent (finite.value forms B d)
IsPartCause (Past Terms) B = (d : Derivative) × HasManyTerms (finite.value forms B d)
IsPartCause (Past Order) B = HasHighDerivative B
IsPartCause (Past Unknowns) B = ⊥
IsPartCause (Past Width) B = ⊥
IsPartCause NoMemory B = Unit {0}

-- ---- forms that last
-- each term lasts through the derivatives by the variables
pub record FormLasts (us : List Unknown) (vs : List ℕ) (X : LinearForm) : Type 0 where
  pub each : (d : Derivative) → Every (λ (e : Monomial × ℤ). IsLasting us vs d.unknown e.0) (finite.value forms X d).list
