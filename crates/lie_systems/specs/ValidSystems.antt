-- Valid systems: unknowns in order, each derivative of a listed unknown by its own variables, and equations normalised, distinct and in
-- order.
use Rattle.std.specs.Prelude.{◌≡◌, ℕ, ◌<◌, ltb, true, List, length, get_or}
use Rattle.std.specs.List.{AllByRecursion as Every, Contains}
use Rattle.std.specs.List.Sorted.{IsStrictlySortedBy}
use Rattle.std.specs.Ordering.{nat_cmp, on}
use Rattle.lie_math.specs.Polynomial.{WholePolynomial}
use Rattle.lie_math.specs.Variables.{IsIn}
use Rattle.lie_math.specs.Counts.{Derivative, trimmed}
use Rattle.lie_math.specs.LinearForm.{LinearForm}
use Rattle.lie_math.specs.LinearSystem.{Unknown, LinearSystem, has}
use Rattle.lie_systems.specs.EquationOrder.{equation_cmp}
use Rattle.lie_systems.specs.Normalised.{IsNormalised}

-- how often a derivative derives by a variable
abbrev pub count : Derivative → ℕ → ℕ
count d v = get_or d.counts v 0

-- a derivative of a listed unknown by its own variables; no count of 0 stands at the end of the list of counts
pub record IsOwned (unknowns : List Unknown) (d : Derivative) : Type 0 where
  pub unknown : Unknown
  pub listed : Contains unknowns unknown
  pub number : unknown.number ≡ d.unknown
  pub own : (v : ℕ) → ¬ (count d v ≡ 0) → has unknown v ≡ true
  pub short : trimmed d.counts ≡ d.counts

-- a form in derivatives of listed unknowns, with polynomials in the variables below n
abbrev pub IsFormOf : ℕ → List Unknown → LinearForm → Type 0
IsFormOf n unknowns E = Every (λ (e : Derivative × WholePolynomial). IsOwned unknowns e.0 × IsIn (λ v. ltb v n) e.1) E.list

-- the variables of an unknown rise and are below n
abbrev pub HasVariablesBelow : ℕ → Unknown → Type 0
HasVariablesBelow n f = IsStrictlySortedBy nat_cmp f.variables × Every (λ v. v < n) f.variables

-- a valid system over n variables
pub record IsValid (n : ℕ) (S : LinearSystem) : Type 0 where
  pub rising : IsStrictlySortedBy (on (λ (f : Unknown). f.number) nat_cmp) S.unknowns
  pub below : Every (λ (f : Unknown). f.number < S.next) S.unknowns
  pub variables : Every (HasVariablesBelow n) S.unknowns
  pub equations : Every (IsFormOf n S.unknowns) S.equations
  pub normalised : Every IsNormalised S.equations
  pub ordered : IsStrictlySortedBy equation_cmp S.equations
  pub general : Every (IsFormOf n S.unknowns) S.general
  pub components : length S.general ≡ n
