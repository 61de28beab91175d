-- Equations with which one may be crossed.
use Rattle.std.specs.Prelude.{◌≡◌, ℕ, ◌<◌, ◌≤◌, Option, None, Some}
use Rattle.lie_math.specs.Counts.{Derivative}
use Rattle.lie_math.specs.LinearSystem.{LinearSystem}
use Rattle.lie_systems.specs.Leads.{IsLead}
use Rattle.lie_steps.specs.Equations.{equation, IsPlace}

-- the leads of the i-th and the j-th equation are not of one unknown
abbrev pub AreNoPartners : LinearSystem → ℕ → ℕ → Type 0
AreNoPartners S i j = (l m : Derivative) → IsLead l (equation S i) → IsLead m (equation S j) → ¬ (l.unknown ≡ m.unknown)

-- the place is one from another on, and between there is no partner of the i-th equation; or there is none, and no partner from there on
abbrev pub IsNextPartner : LinearSystem → ℕ → ℕ → Option ℕ → Type 0
IsNextPartner S i from None = (j : ℕ) → from ≤ j → IsPlace S j → AreNoPartners S i j
IsNextPartner S i from (Some k) = (from ≤ k) × IsPlace S k × ((j : ℕ) → from ≤ j → j < k → AreNoPartners S i j)
