-- The equations that conditions make: the normalised parts of linear forms with jet polynomials as coefficients, at the monomials in the
-- jets.
use Rattle.std.specs.Prelude.{◌≡◌, ℕ, ◌+◌, ◌≤◌, ◌<◌, ◌⊎◌, List, All}
use Rattle.std.specs.List.{Any, Contains, AllByRecursion as Every}
use Rattle.std.specs.List.Sorted.{IsStrictlySortedBy}
use Rattle.lie_math.specs.Counts.{Derivative, trimmed}
use Rattle.lie_math.specs.LinearForm.{LinearForm, no_form, each_coefficient}
use Rattle.lie_math.specs.LinearSystem.{LinearSystem}
use Rattle.lie_math.specs.Monomial.{Monomial}
use Rattle.lie_geometry.specs.Coordinates.{Space}
use Rattle.lie_geometry.specs.DeterminingEquations.{part, determining_system}
use Rattle.lie_geometry.specs.Prolongation.{is_in_z}
use Rattle.lie_systems.specs.EquationOrder.{equation_cmp}
use Rattle.lie_systems.specs.Leads.{Occurs}
use Rattle.lie_systems.specs.Normalised.{primitive}
use Rattle.lie_systems.specs.ValidSystems.{count}
use Rattle.lie_ring.specs.declared.failures.PastKind.TheVariants.{Terms}
use Rattle.lie_ring.specs.declared.failures.PolyFail.{PolyFail}
use Rattle.lie_ring.specs.declared.failures.PolyFail.TheVariants.{Past, NoMemory}
use Rattle.lie_systems.specs.Bulk.{system_triple_count}

-- ---- the conditions
-- a derivative of an unknown 1 to p + q by the variables z; no count of 0 stands at the end of the list of counts
pub record IsDerivativeInZ (S : Space) (d : Derivative) : Type 0 where
  pub positive : 0 < d.unknown
  pub low : d.unknown ≤ S.p + S.q
  pub own : (v : ℕ) → ¬ (count d v ≡ 0) → v < S.p + S.q
  pub short : trimmed d.counts ≡ d.counts

-- each derivative that occurs is such a one
abbrev pub HasDerivativesInZ : Space → LinearForm → Type 0
HasDerivativesInZ S E = (d : Derivative) → Occurs d E → IsDerivativeInZ S d

-- ---- their equations
-- the part of a form at a monomial in the jets of order 1 or more
abbrev pub part_of_form : Space → LinearForm → Monomial → LinearForm
part_of_form S E μ = each_coefficient (part (is_in_z S) μ) E

-- the normalised part of a form at some monomial, which is not empty
abbrev pub IsPartOf : Space → LinearForm → LinearForm → Type 0
IsPartOf S E e = (μ : Monomial) × (¬ (part_of_form S E μ ≡ no_form)) × (e ≡ primitive (part_of_form S E μ))

-- such a part of a form of the list
abbrev pub IsNormalisedPart : Space → List LinearForm → LinearForm → Type 0
IsNormalisedPart S Es e = Any (λ E. IsPartOf S E e) Es

-- the normalised parts of all forms that are not empty, each once and in order
pub record AreEquationsOf (S : Space) (Es es : List LinearForm) : Type 0 where
  pub all : All (λ E. (μ : Monomial) → (part_of_form S E μ ≡ no_form) ⊎ Contains es (primitive (part_of_form S E μ))) Es
  pub alone : Every (IsNormalisedPart S Es) es
  pub ordered : IsStrictlySortedBy equation_cmp es

-- the system of these equations for the unknowns 1 to p + q, each of all variables z, one for each component
abbrev pub IsSystemOf : Space → List LinearForm → LinearSystem → Type 0
IsSystemOf S Es T = (es : List LinearForm) × AreEquationsOf S Es es × (T ≡ determining_system S es)

-- the system has more than 1,000,000 triples
abbrev pub IsLargeSystem : Space → List LinearForm → Type 0
IsLargeSystem S Es = (T : LinearSystem) × IsSystemOf S Es T × (1000000 < system_triple_count T)

-- the answer is for want of memory, or tells that the system is large
abbrev pub IsSystemCause : Space → List LinearForm → PolyFail → Type 0
IsSystemCause S Es (Past kind) = (kind ≡ Terms) × IsLargeSystem S Es
IsSystemCause S Es NoMemory = Unit {0}
