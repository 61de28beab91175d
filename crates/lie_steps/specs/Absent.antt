-- The equation that a derivative of an unknown is 0: the unknown is a sum of powers times functions of fewer variables.
use Rattle.std.specs.Prelude.{◌≡◌, ℕ, zero, suc, ◌<◌, not, eqb, List, [], ◌∷◌, ◌++◌, pos, filter}
use Rattle.std.specs.List.{Contains}
use Rattle.lie_math.specs.Monomial.{power_of}
use Rattle.lie_math.specs.Polynomial.{term}
use Rattle.lie_math.specs.Counts.{Derivative, order}
use Rattle.lie_math.specs.LinearForm.{LinearForm, no_form, ◌+ᶠ◌, form_term}
use Rattle.lie_math.specs.LinearSystem.{Unknown, LinearSystem}
use Rattle.lie_systems.specs.Normalised.{derivative_alone}
use Rattle.lie_systems.specs.Works.{Made}
use Rattle.lie_steps.specs.Equations.{equation, IsPlace}
use Rattle.lie_steps.specs.Replacement.{eliminated, fresh_made, replacement_made}
use Rattle.lie_steps.specs.Tidying.{IsTidySystem}

-- ---- powers of variables, each with an unknown of its own
-- a variable and an exponent
abbrev pub Power : Type 0
Power = ℕ × ℕ

-- the powers of v with the exponents from e on, k of them
abbrev pub powers_from : ℕ → ℕ → ℕ → List Power
powers_from v e zero = []
powers_from v e (suc k) = (v, e) ∷ powers_from v (suc e) k

-- for each variable in order the powers below its count
abbrev pub low_powers_from : ℕ → List ℕ → List Power
low_powers_from v [] = []
low_powers_from v (c ∷ B) = powers_from v 0 c ++ low_powers_from (suc v) B

abbrev pub low_powers : List ℕ → List Power
low_powers B = low_powers_from 0 B

-- the sum of the powers, each times an unknown with the next number from n on
abbrev pub fresh_sum : ℕ → List Power → LinearForm
fresh_sum n [] = no_form
fresh_sum n (c ∷ cs) = form_term (record { unknown = n; counts = [] }) (term (power_of c.0 c.1) (pos 1)) +ᶠ fresh_sum (suc n) cs

-- these unknowns: each depends on the variables of f without that of its power
abbrev pub fresh_unknowns : ℕ → Unknown → List Power → List Unknown
fresh_unknowns n f [] = []
fresh_unknowns n f (c ∷ cs) = record { number = n; variables = filter (λ v. not (eqb v c.0)) f.variables } ∷ fresh_unknowns (suc n) f cs

-- ---- the rule
-- the i-th equation is that d, a derivative of f, is 0
pub record IsAbsentAt (S : LinearSystem) (i : ℕ) (f : Unknown) (d : Derivative) : Type 0 where
  pub place : IsPlace S i
  pub listed : Contains S.unknowns f
  pub number : f.number ≡ d.unknown
  pub derived : 0 < order d.counts
  pub is : equation S i ≡ derivative_alone d

-- what f becomes, and the unknowns in it
abbrev pub absent_sum : LinearSystem → Derivative → LinearForm
absent_sum S d = fresh_sum S.next (low_powers d.counts)

abbrev pub absent_unknowns : LinearSystem → Unknown → Derivative → List Unknown
absent_unknowns S f d = fresh_unknowns S.next f (low_powers d.counts)

abbrev pub absented : LinearSystem → ℕ → Unknown → Derivative → LinearSystem
absented S i f d = eliminated S i f.number (absent_sum S d) 1 (absent_unknowns S f d)

abbrev pub AppliesAbsent : LinearSystem → ℕ → Type 0
AppliesAbsent S i = (f : Unknown) × (d : Derivative) × IsAbsentAt S i f d

abbrev pub AfterAbsent : LinearSystem → ℕ → LinearSystem → Type 0
AfterAbsent S i T = (f : Unknown) × (d : Derivative) × IsAbsentAt S i f d × IsTidySystem (absented S i f d) T

-- the actions of the step
abbrev pub AbsentMakes : LinearSystem → ℕ → Made → Type 0
AbsentMakes S i b = (f : Unknown) × (d : Derivative) × IsAbsentAt S i f d
    × Contains (fresh_made (absent_unknowns S f d) ++ replacement_made S i f.number (absent_sum S d) 1 (absent_unknowns S f d)) b
