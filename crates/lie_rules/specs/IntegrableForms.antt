-- Equations that can be integrated, as they are kept.
use Rattle.std.specs.Prelude.{◌≡◌, ℕ, ◌<◌, List, ℤ, unsigned_abs}
use Rattle.std.specs.List.{Contains}
use Rattle.lie_math.specs.LinearForm.{LinearForm, ◌+ᶠ◌}
use Rattle.lie_math.specs.LinearSystem.{Unknown, LinearSystem}
use Rattle.lie_systems.specs.Triples.{triples}
use Rattle.lie_ring.specs.declared.failures.PolyFail.{PolyFail}
use Rattle.lie_jet.specs.Derivatives.{derivative_of}
use Rattle.lie_normal.specs.WorkCauses.{IsWorkCause}
use Rattle.lie_steps.specs.Absent.{Power, fresh_sum}
use Rattle.lie_steps.specs.Equations.{equation, IsPlace, IsGreatest, rest_of}
use Rattle.lie_steps.specs.Integrate.{integral, IsIntegrable, IsIntegrableFor, IsLeastDenominator}
use Rattle.lie_steps.specs.Replacement.{solution_made}
use Rattle.lie_integral.specs.Fractions.{IsPositive}
use Rattle.lie_rules.specs.declared.integrate.Integrable.{Integrable}

-- E can be integrated for the derivative, with this rest
pub record IsIntegrableAs (unknowns : List Unknown) (E : LinearForm) (found : Integrable) : Type 0 where
  pub is : IsIntegrableFor unknowns E (derivative_of found.der) found.integration.number found.integration.var found.integration.times
  pub rest : found.rest ≡ rest_of (derivative_of found.der) E
  pub low : found.integration.var < 8

-- the equation at a place can be integrated for the greatest derivative
pub record IsIntegration (S : LinearSystem) (i : ℕ) (found : Integrable) : Type 0 where
  pub place : IsPlace S i
  pub integrable : IsIntegrableAs S.unknowns (equation S i) found
  pub greatest : IsGreatest (IsIntegrable S.unknowns (equation S i)) (derivative_of found.der)

-- the integral of the rest, made whole by L, plus the powers times fresh unknowns
abbrev pub integral_with : Integrable → ℕ → List Power → ℕ → LinearForm
integral_with found next powers L =
    integral found.integration.number found.integration.var found.integration.times L found.rest +ᶠ fresh_sum next powers

-- W is that, and L the least number that makes it whole
pub record IsIntegral (found : Integrable) (next : ℕ) (powers : List Power) (W : LinearForm) (L : ℤ) : Type 0 where
  pub positive : IsPositive L
  pub least : IsLeastDenominator found.integration.number found.integration.var found.integration.times (triples found.rest)
      (unsigned_abs L)
  pub form : W ≡ integral_with found next powers (unsigned_abs L)

-- the answer is for want of memory, or tells a limit that W or L is past
abbrev pub IsIntegralCause : PolyFail → Integrable → ℕ → List Power → Type 0
IsIntegralCause fail found next powers = (L : ℕ)
    → IsLeastDenominator found.integration.number found.integration.var found.integration.times (triples found.rest) L
    → IsWorkCause fail (Contains (solution_made (integral_with found next powers L) L))
